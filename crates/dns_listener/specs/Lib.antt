pub mod Counting
pub mod Listeners
pub mod RunningListeners
