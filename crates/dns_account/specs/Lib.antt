pub mod DatagramLaw
pub mod Hosts
pub mod Law
