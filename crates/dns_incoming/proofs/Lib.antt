pub mod CutLaws
pub mod ZoneLaws
pub mod MessageLaws
pub mod BackLaws
