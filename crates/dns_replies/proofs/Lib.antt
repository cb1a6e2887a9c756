mod ErrorReplies
mod AddedOptions
mod CutLaws
pub mod OptSizes
