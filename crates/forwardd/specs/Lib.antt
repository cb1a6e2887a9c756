pub mod Words
pub mod Lines
pub mod Loads
pub mod Required
pub mod Tokens
