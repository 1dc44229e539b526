pub mod BytesLine
