pub mod GainedLaws
pub mod ObservedLaws
pub mod AdmissionOutcomes
pub mod BroughtLaws
pub mod TurnLaws
pub mod Loops
