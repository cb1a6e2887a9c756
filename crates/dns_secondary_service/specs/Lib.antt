pub use Rattle.dns_secondary.specs.Copies
pub mod Withheld
pub mod WithholdingReplies
pub mod Targets
