pub mod Judged
pub mod KeysRead
pub mod Loaded
