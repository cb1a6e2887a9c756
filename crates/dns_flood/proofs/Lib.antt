pub mod Batches
pub mod Flooded
