pub mod Faulty
mod Required
