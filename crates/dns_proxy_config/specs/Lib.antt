pub mod Proxies
pub mod Faults
