pub use Rattle.dns_name.specs.Labels
pub use Rattle.dns_message.specs.Records
pub use Rattle.dns_zone_file.specs.ZoneFile
pub mod Refusals
pub mod Texts
pub mod Including
