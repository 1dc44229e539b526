pub mod InList
