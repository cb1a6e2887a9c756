pub mod ZoneForLaws
pub mod AnswerLaws
pub mod AskedLaws
pub mod SentLaws
pub mod BunchLaws
