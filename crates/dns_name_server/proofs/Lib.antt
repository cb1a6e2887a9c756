pub mod WildLaws
pub mod RegionLaws
pub mod StepLaws
pub mod ReplyLaws
pub mod ChainLaws
pub mod FrontLaws
pub mod BuiltLaws
