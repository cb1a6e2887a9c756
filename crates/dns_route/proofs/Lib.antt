pub mod KeptLaws
pub mod ReplyLaws
pub mod OwnLaws
pub mod OwnBuilt
