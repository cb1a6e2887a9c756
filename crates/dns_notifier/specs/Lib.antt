pub mod Announced
pub mod Signings
