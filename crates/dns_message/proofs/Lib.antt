pub mod Coming
pub mod Written
mod FixedAt
pub mod Plains
pub mod OptionLaws
pub mod TypedWritten
pub mod TypedSections
pub mod Copies
