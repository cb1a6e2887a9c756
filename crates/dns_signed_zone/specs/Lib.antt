pub use Rattle.dns_denial.specs.Accepted
pub use Rattle.dns_denial.specs.Chains
pub use Rattle.dns_denial.specs.Checks
pub use Rattle.dns_denial.specs.Denials
pub use Rattle.dns_nsec_data.specs.NsecData
pub mod MadeZones
pub mod SignedZones
