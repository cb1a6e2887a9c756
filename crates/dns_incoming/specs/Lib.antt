pub use Rattle.dns_zone.specs.Owned
pub use Rattle.dns_transfer.specs.Transfers
pub mod Incoming
pub mod IncomingLaws
