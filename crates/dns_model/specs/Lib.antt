pub use Rattle.dns_session.specs.News
pub mod Settings
pub mod Own
pub mod Sent
pub mod Out
