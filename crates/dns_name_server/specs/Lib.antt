pub use Rattle.dns_zone.specs.Owned
pub use Rattle.dns_zone.specs.ZoneReply
pub use Rattle.dns_zone.specs.ZoneTurns
pub use Rattle.dns_zone_tree.specs.Wildcards
pub use Rattle.dns_zone_tree.specs.Regions
pub mod NameServerReplies
pub mod WildReplies
pub mod Steps
