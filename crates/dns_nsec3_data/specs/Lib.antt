pub use Rattle.dns_nsec_data.specs.BitMaps
pub use Rattle.dns_nsec_data.specs.NsecData
pub use Rattle.dns_denial.specs.Nsec3
pub use Rattle.dns_denial.specs.Hashes
pub use Rattle.dns_word_values.specs.Base32
pub mod Nsec3Data
