pub use Rattle.dns_core.specs.Trails
pub use Rattle.dns_model.specs.Sent
pub use Rattle.dns_transfer.specs.Transfers
pub mod SentTransfers
