pub mod OwnOpts
