pub mod Running
pub mod Asked
