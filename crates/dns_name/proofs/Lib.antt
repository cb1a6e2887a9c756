pub mod Walks
pub mod Named
pub mod Spelt
pub mod Grammars
pub mod Whole
pub mod OptionRoundTrip
pub mod Orders
pub mod FromTexts
pub mod FromNames
pub mod TextsBack
pub mod Sames
pub mod Parents
mod FoundIn
mod CodesBack
mod Joined
