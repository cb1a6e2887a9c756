pub use Rattle.dns_session.specs.Serving
pub use Rattle.dns_service.specs.PolledRequest
pub mod Serves
