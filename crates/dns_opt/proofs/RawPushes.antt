-- What a push of a writer's octets does, if the octets are said otherwise.
use Rattle.std.proofs.Common.{ℕ, ◌+◌, ◌≤◌, List, length, Result, Ok, Err, ap}
use Rattle.std.specs.Prelude.{⊤}
use Rattle.dns_name.specs.declared.opt_error.BuildDataError.{BuildDataError}
use Rattle.dns_name.specs.declared.opt_error.BuildDataError.TheVariants.{LongOptData, WrongLength, ShortBuf, OutOfMemory as NoMemory}
use Rattle.dns_options.specs.Pushes.{PushedRaw}
use Rattle.dns_opt.specs.Drafts.{OptDraft, PushedRawIn, with_options}

pub raw_by : {P Q : List ℕ → Type 0} (code n : ℕ) (old new : List ℕ) (r : Result ⊤ BuildDataError) → ((d : List ℕ) → P d → Q d) → PushedRaw P code n old new r → PushedRaw Q code n old new r
raw_by code n old new (Ok u) f (fits, (d, w, l, e)) = (fits, (d, f d w, l, e))
raw_by code n old new (Err LongOptData) f h = h
raw_by code n old new (Err (WrongLength s t)) f (fits, (d, w, a, b, l), e) = (fits, (d, f d w, a, b, l), e)
raw_by code n old new (Err NoMemory) f h = h
raw_by code n old new (Err ShortBuf) f h = h

-- an option pushed into a draft that has room
pub raw_in : {P Q : List ℕ → Type 0} (code n : ℕ) (old : OptDraft) (new : List ℕ) (r : Result ⊤ BuildDataError) → ((d : List ℕ) → P d → Q d) → length old.options + 4 + n + 11 ≤ old.room → PushedRaw P code n old.options new r → PushedRawIn Q code n old (with_options old new) r
raw_in code n old new (Ok u) f room (fits, (d, w, l, e)) = (fits, room, (d, f d w, l, ap (with_options old) e))
raw_in code n old new (Err LongOptData) f room (long, e) = (long, ap (with_options old) e)
raw_in code n old new (Err (WrongLength s t)) f room (fits, (d, w, a, b, l), e) = (fits, (d, f d w, a, b, l), ap (with_options old) e)
raw_in code n old new (Err NoMemory) f room (fits, e) = (fits, ap (with_options old) e)
raw_in code n old new (Err ShortBuf) f room h = absurd h
