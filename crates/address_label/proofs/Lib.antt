pub mod AddressLabelsLaws
pub mod EntriesLaws
pub mod LabelBytesLaws
pub mod Written
pub mod WrittenLaws
