pub mod Hosted
pub mod WitnessedServers
pub mod Noted
pub mod Replayed
