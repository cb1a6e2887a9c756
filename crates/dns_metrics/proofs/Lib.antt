mod Added
mod Appended
