pub use Rattle.dns_kinds.specs.Subnet
pub mod Networks
