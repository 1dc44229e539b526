pub mod BytesLineLaws
