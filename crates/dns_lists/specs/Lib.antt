pub use Rattle.dns_name.specs.OptData
pub use Rattle.dns_name.specs.Place
pub mod Tags
pub mod Texts
pub mod Unknowns
pub mod Lending
pub mod RoundTrip
