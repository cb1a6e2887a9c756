pub mod Nsec3Laws
pub mod ParamLaws
