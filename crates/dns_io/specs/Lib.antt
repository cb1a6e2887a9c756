pub mod Causes
pub mod AcceptTraffic
pub mod SockTraffic
pub mod Moves
pub mod Starts
pub mod Traffic
