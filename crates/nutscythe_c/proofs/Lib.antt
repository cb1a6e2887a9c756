pub mod Hands
pub mod Values
pub mod Objects
mod Ranges
