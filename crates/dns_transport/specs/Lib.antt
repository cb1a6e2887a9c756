pub use Rattle.dns_host.specs.Hosting
pub use Rattle.dns_host.specs.declared.host.HostEnd
pub mod Controls
pub mod Parts
pub mod Runs
