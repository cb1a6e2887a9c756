pub mod BitLaws
pub mod BlockLaws
pub mod NsecLaws
