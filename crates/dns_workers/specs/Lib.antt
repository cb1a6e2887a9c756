pub use Rattle.dns_host.specs.Hosting
pub mod Workers
pub mod Faults
