pub mod PendingBytesLaws
pub mod PendingsLaws
pub mod Written
pub mod WrittenLaws
