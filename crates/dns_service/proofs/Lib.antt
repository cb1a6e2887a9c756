pub mod CopyLaws
pub mod LastOpts
mod AskedLaws
