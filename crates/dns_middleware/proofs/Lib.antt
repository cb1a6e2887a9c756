pub mod Nested
pub mod Called
pub mod ReplyLaws
