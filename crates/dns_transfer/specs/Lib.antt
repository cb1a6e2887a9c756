pub use Rattle.dns_zone.specs.Owned
pub use Rattle.dns_zone.specs.ZoneTurns
pub mod Transfers
pub mod Packings
