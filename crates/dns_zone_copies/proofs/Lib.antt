pub mod Follows
pub mod Looks
pub mod OneByOne
pub mod Places
pub mod Reported
