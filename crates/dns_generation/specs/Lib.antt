pub mod Signings
pub mod Generations
