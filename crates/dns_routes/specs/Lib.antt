pub use Rattle.dns_name.specs.Canonical
pub use Rattle.dns_name.specs.Labels
pub mod Routes
pub mod Places
