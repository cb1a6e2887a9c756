pub mod PathLaws
pub mod PlaceLaws
pub mod OrderLaws
pub mod KeepLaws
pub mod CutLaws
mod StandingLaws
pub mod GlueLaws
pub mod AliasLaws
pub mod ReplyLaws
pub mod BuildLaws
pub mod CheckLaws
pub mod TypedLaws
pub mod ErrorLaws
