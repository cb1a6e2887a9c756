pub use Rattle.dns_message.specs.Options
pub use Rattle.dns_name.specs.OptData
pub use Rattle.dns_name.specs.Place
pub mod OptionHeads
pub mod Items
pub mod Joined
pub mod Writes
