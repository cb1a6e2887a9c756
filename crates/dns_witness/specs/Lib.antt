pub mod Seen
pub mod Since
pub mod Works
