-- What a reader of words answers.
use Rattle.std.specs.Prelude.{◌≡◌, Result, Ok, Err, Bool, if◌then◌else◌}
use Rattle.dns_trace.specs.declared.reason.Reason.{Reason}
use Rattle.dns_trace.specs.declared.reason.LineError.{LineError}
use Rattle.dns_trace.specs.declared.reason.LineError.TheVariants.{OutOfMemory, Refused}

-- what the second reads of what the first gave, or the first's refusal
infixl 10 ◌>>=◌
abbrev pub ◌>>=◌ : {A B E : Type 0} → Result A E → (A → Result B E) → Result B E
(Ok x) >>= f = f x
(Err e) >>= f = Err e

-- the reason, unless the test holds
abbrev pub unless : Reason → Bool → Result (Unit {0}) Reason
unless r b = if b then Ok tt else Err r

abbrev pub Fails : {Y : Type 0} → LineError → Result Y Reason → Type 0
Fails OutOfMemory read = Unit {0}
Fails (Refused r) read = read ≡ Err r

-- a reader gave what is read, or its refusal, unless memory ran out
abbrev pub GivesLine : {X Y : Type 0} → (X → Y) → Result X LineError → Result Y Reason → Type 0
GivesLine view (Ok x) read = read ≡ Ok (view x)
GivesLine view (Err e) read = Fails e read

-- what is said with a line more, or its refusal, unless memory ran out
abbrev pub TakesLine : {S : Type 0} → Result (Unit {0}) LineError → S → Result S Reason → Type 0
TakesLine (Ok u) said read = read ≡ Ok said
TakesLine (Err e) said read = Fails e read
