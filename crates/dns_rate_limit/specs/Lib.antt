pub use Rattle.dns_networks.specs.Networks
pub mod Accounts
pub mod Histories
pub mod Tables
pub mod Limited
