pub mod ItemLaws
mod JoinedLaws
