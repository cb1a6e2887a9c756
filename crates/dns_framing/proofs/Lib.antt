pub mod FramesLemmas
