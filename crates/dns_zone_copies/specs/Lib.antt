pub mod Following
pub mod Looking
pub mod Reporting
pub mod Secondaries
pub mod Targets
pub mod Replies
