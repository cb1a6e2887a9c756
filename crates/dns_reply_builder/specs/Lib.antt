pub mod Replying
pub mod Held
