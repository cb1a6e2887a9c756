pub use Rattle.dns_name.specs.OptData
pub use Rattle.dns_name.specs.Place
pub mod Algorithms
