pub mod KeyedReplies
