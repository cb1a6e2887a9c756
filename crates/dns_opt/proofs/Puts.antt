-- A refused push of an OPT record.
use Rattle.std.proofs.Common.{◌≡◌, Err}
use Rattle.dns_name.specs.declared.opt_error.BuildDataError.{BuildDataError}
use Rattle.dns_base.specs.declared.error.PushError.{PushError}
use Rattle.dns_base.specs.declared.error.PushError.TheVariants.{ShortBuf, OutOfMemory}
use Rattle.dns_base.specs.Built.{Built, Pushes}
use Rattle.dns_base.specs.PushErrors.{build_error}
use Rattle.dns_opt.specs.Drafts.{OptDraft, PutInto, with_opt_record}

pub refused : (d : OptDraft) (bare old new : Built) (p : PushError) (e : BuildDataError) → e ≡ build_error p → Pushes old new (with_opt_record d bare) (Err p) → PutInto d bare old new (Err e)
refused d bare old new ShortBuf e is h = rw is h
refused d bare old new OutOfMemory e is h = rw is h.0
