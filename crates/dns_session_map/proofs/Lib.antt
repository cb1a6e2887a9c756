pub mod Keys
mod Keyed
mod Steps
mod One
