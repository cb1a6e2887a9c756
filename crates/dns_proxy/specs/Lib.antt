pub use Rattle.dns_session.specs.After
pub use Rattle.dns_session.specs.Datagrams
pub use Rattle.dns_lookup.specs.Lookups
pub mod Coming
pub mod Fronts
pub mod Proxied
pub mod Queries
pub mod Places
