pub mod Values
pub mod Moments
pub mod Base32
pub mod TypeSets
