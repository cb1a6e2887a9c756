pub mod HexText
pub mod Padding
pub mod Responses
pub mod Words
