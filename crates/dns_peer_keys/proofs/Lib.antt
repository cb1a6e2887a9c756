pub mod KeysNamed
