pub mod SubnetLaws
pub mod KeyLaws
pub mod MarkLaws
pub mod TypedLaws
pub mod AgedLaws
pub mod KeptLaws
pub mod ReplyLaws
mod BuiltLaws
mod BareRequests
pub mod EntryLaws
pub mod CallLaws
