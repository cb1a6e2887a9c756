pub mod Ties
pub mod SockTies
pub mod ClockTies
pub mod AcceptTies
pub mod Walks
pub mod Joins
