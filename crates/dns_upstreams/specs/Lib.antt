pub use Rattle.dns_routes.specs.Routes
pub mod Upstreams
