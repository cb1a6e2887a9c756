pub use Rattle.dns_admission.specs.Machine
pub mod Words
