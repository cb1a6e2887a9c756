pub use Rattle.dns_proxy.specs.Fronts
pub mod Networks
pub mod Required
pub mod Layered
pub mod Caching
pub mod Passed
pub mod ServerReplies
