pub use Rattle.dns_accepts.specs.Accepting
pub use Rattle.dns_accepts.specs.Arrivals
pub use Rattle.dns_accepts.specs.Clocks
pub use Rattle.dns_accepts.specs.Woven
pub use Rattle.dns_accepts.specs.declared.accepts.AcceptEnd
pub use Rattle.dns_dgram_driver.specs.DatagramsServed
pub use Rattle.dns_dgram_driver.specs.declared.serving.DgramEnd
pub mod Hosting
