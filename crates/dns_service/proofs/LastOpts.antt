-- What has no room has none with an OPT record more.
use Rattle.std.proofs.Common.{◌≤◌, length, Err, Option, Some, None, arith}
use Rattle.dns_base.specs.declared.error.PushError.{PushError}
use Rattle.dns_base.specs.declared.error.PushError.TheVariants.{ShortBuf, OutOfMemory as NoMemory}
use Rattle.dns_base.specs.Builds.{Builds, unlimited}
use Rattle.dns_base.specs.Msg.{Msg}
use Rattle.dns_base.specs.Wire.{wire}
use Rattle.dns_replies.specs.OptRecords.{OptState}
use Rattle.dns_replies.proofs.OptSizes.{opt_grows}
use Rattle.dns_service.specs.LastOpt.{and_opt}

and_opt_grows : (m : Msg) (opt : Option OptState) → length (wire m) ≤ length (wire (and_opt m opt))
and_opt_grows m None = omega arith
and_opt_grows m (Some s) = omega (arith, opt_grows s.head s.options (unlimited m))

pub opt_refused : (m : Msg) (opt : Option OptState) (e : PushError) → Builds (unlimited m) (Err e) → Builds (unlimited (and_opt m opt)) (Err e)
opt_refused m opt ShortBuf b = omega (arith, and_opt_grows m opt, b)
opt_refused m opt NoMemory b = tt
