pub mod KeyLaws
pub mod BeginLaws
