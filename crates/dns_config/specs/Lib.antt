pub mod Addresses
pub mod Configurations
pub mod Algorithms
