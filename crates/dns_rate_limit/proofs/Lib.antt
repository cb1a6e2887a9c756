pub mod Pays
pub mod TableAccounts
