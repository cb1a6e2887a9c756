pub use Rattle.dns_middleware.specs.Wrapped
pub mod Decided
