mod Puts
mod RawPushes
pub mod Sizes
pub mod Opts
