pub mod Matching
pub mod Asked
pub mod Askings
pub mod Forwarded
