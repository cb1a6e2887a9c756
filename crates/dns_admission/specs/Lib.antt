pub mod Machine
pub mod Admissions
