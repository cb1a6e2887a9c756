pub mod StatusLaws
pub mod AmongLaws
pub mod SentLaws
