pub mod Loading
pub mod Zones
pub mod Keys
