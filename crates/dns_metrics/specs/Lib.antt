pub mod Names
pub mod Exposition
pub mod Pages
