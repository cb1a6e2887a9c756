pub mod Rewritings
