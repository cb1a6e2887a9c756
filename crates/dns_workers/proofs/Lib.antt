pub mod OneByOne
pub mod ServedWorkers
pub mod HostEndCauses
