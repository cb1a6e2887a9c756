mod Addresses
mod Configs
pub mod Cutting
pub mod Decimals
pub mod EventsBack
pub mod Folded
pub mod Hexes
pub mod Joined
pub mod Written
pub mod NameText
pub mod Names
pub mod Numbered
pub mod Ranges
pub mod SettingsBack
pub mod Starts
pub mod TraceBack
