mod Levels
mod Refusals
mod Entries
mod Same
mod Places
