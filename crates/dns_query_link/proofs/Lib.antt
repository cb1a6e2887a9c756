mod Sifted
mod Ties
pub mod Sends
