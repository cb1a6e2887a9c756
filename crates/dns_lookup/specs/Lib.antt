pub use Rattle.dns_forward.specs.Asked
pub use Rattle.dns_forward.specs.Matching
pub mod Lookups
pub mod Stages
pub mod LookupLaws
