mod Outcomes
mod Stepped
mod LawsProved
