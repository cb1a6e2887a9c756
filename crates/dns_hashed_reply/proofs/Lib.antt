pub mod ApartLaws
pub mod ChoiceLaws
pub mod MissingLaws
pub mod SectionLaws
pub mod HashedAccept
pub mod ChosenLaws
pub mod AddLaws3
pub mod GivenLaws3
