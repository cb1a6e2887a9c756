-- What a reader of several texts answers: what is read, or the name of a text, a line of it, and why it is refused.
use Rattle.std.specs.Prelude.{◌≡◌, ℕ, Bool, true, false, List, Result, Ok, Err}
use Rattle.dns_entries.specs.Reading.{LineRead}
use Rattle.dns_entries.specs.declared.reason.EntryReason.{EntryReason}
use Rattle.dns_entries.specs.declared.reason.EntryReason.TheVariants.{Include}
use Rattle.dns_zone_include.specs.declared.refusal.IncludeReason.{IncludeReason}
use Rattle.dns_zone_include.specs.declared.refusal.IncludeReason.TheVariants.{Entry}
use Rattle.dns_zone_include.specs.declared.refusal.IncludeError.{IncludeError}
use Rattle.dns_zone_include.specs.declared.refusal.IncludeError.TheVariants.{Refused, OutOfMemory}

abbrev pub TextRead : Type 0 → Type 0
TextRead A = Result A (List ℕ × ℕ × IncludeReason)

-- what is read of a line of the text of this name
abbrev pub in_text : {A : Type 0} → List ℕ → LineRead A → TextRead A
in_text name (Ok x) = Ok x
in_text name (Err e) = Err (name, e.0, Entry e.1)

-- an error is the refusal that is read, or out of memory
abbrev pub FailsIn : {A : Type 0} → IncludeError → TextRead A → Type 0
FailsIn OutOfMemory read = Unit {0}
FailsIn (Refused name line r) read = read ≡ Err (name, line, r)

-- what is read is given, unless memory ran out
abbrev pub GivesIn : {X A : Type 0} → (X → A) → Result X IncludeError → TextRead A → Type 0
GivesIn view (Ok x) read = read ≡ Ok (view x)
GivesIn view (Err e) read = FailsIn e read

-- an error is this refusal, or out of memory
abbrev pub IsRefusal : List ℕ → ℕ → IncludeReason → IncludeError → Type 0
IsRefusal name line r OutOfMemory = Unit {0}
IsRefusal name line r (Refused n l s) = (n ≡ name) × (l ≡ line) × (s ≡ r)

-- an entry is refused since it is $INCLUDE
abbrev pub is_include : EntryReason → Bool
is_include Include = true
is_include r = false
