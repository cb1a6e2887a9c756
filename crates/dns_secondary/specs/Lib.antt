pub use Rattle.dns_name.specs.Serials
pub mod Copies
pub mod Messages
