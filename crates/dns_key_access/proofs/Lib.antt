pub mod Hints
pub mod Judged
pub mod RulesMade
