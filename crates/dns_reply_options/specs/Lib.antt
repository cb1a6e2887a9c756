pub mod Carried
pub mod ServerCookies
pub mod Nsids
