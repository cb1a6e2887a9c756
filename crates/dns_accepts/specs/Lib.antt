pub use Rattle.dns_stream_driver.specs.Clocks
pub use Rattle.dns_stream_driver.specs.Woven
pub mod Accepting
pub mod Arrivals
