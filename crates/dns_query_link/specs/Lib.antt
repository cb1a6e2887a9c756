pub use Rattle.dns_framing.specs.Frames
pub mod QueryFrames
pub mod QueryReads
