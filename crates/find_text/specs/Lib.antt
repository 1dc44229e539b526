pub mod FindText
