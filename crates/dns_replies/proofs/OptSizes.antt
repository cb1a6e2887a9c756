-- How long a message is with an OPT record more, for the crates above.
pub use Rattle.dns_opt.proofs.Sizes.{opt_grows}
