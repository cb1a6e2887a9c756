pub mod CloseReasons
pub mod WitnessedHost
pub mod Lawful
pub mod Sends
