pub mod HostStatus
