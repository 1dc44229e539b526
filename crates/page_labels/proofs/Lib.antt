pub mod SlotsLaws
