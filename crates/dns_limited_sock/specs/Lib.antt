pub mod Emptied
pub mod GoodCookies
pub mod Judging
pub mod Kinds
pub mod Sends
pub mod Settings
