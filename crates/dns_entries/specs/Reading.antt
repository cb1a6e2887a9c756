-- What a reader answers: what is read, or a line and why it is refused.
use Rattle.std.specs.Prelude.{◌≡◌, ℕ, Bool, List, [], ◌∷◌, Option, Some, None, Result, Ok, Err, if◌then◌else◌}
use Rattle.dns_entries.specs.declared.entry.Word.{Word}
use Rattle.dns_entries.specs.declared.reason.EntryReason.{EntryReason}
use Rattle.dns_entries.specs.declared.reason.EntryReason.TheVariants.{Missing, Trailing, Quoted}
use Rattle.dns_entries.specs.declared.reason.ReasonError.{ReasonError}
use Rattle.dns_entries.specs.declared.reason.ReasonError.TheVariants.{Refused as Because, OutOfMemory as NoMemory}
use Rattle.dns_entries.specs.declared.reason.ZoneFileError.{ZoneFileError}
use Rattle.dns_entries.specs.declared.reason.ZoneFileError.TheVariants.{Refused, OutOfMemory}

abbrev pub LineRead : Type 0 → Type 0
LineRead A = Result A (ℕ × EntryReason)

-- what the second reads of what the first gave, or the first's refusal
infixl 10 ◌>>=◌
abbrev pub ◌>>=◌ : {A B E : Type 0} → Result A E → (A → Result B E) → Result B E
(Ok x) >>= f = f x
(Err e) >>= f = Err e

abbrev pub refuse : {A : Type 0} → ℕ → EntryReason → LineRead A
refuse line r = Err (line, r)

-- nothing, or a refusal if the test fails
abbrev pub unless_at : ℕ → EntryReason → Bool → LineRead (Unit {0})
unless_at line r b = if b then Ok tt else Err (line, r)

-- an error is the refusal that is read, or out of memory
abbrev pub FailsAs : {A : Type 0} → ZoneFileError → LineRead A → Type 0
FailsAs OutOfMemory read = Unit {0}
FailsAs (Refused line r) read = read ≡ Err (line, r)

-- what is read is given, unless memory ran out
abbrev pub Gives : {X A : Type 0} → (X → A) → Result X ZoneFileError → LineRead A → Type 0
Gives view (Ok x) read = read ≡ Ok (view x)
Gives view (Err e) read = FailsAs e read

-- what is refused for a reason stands on this line
abbrev pub at_line : {A : Type 0} → ℕ → Result A EntryReason → LineRead A
at_line line (Ok x) = Ok x
at_line line (Err r) = Err (line, r)

abbrev pub some_or : {A : Type 0} → ℕ → EntryReason → Option A → LineRead A
some_or line r (Some x) = Ok x
some_or line r None = Err (line, r)

-- a word without quotes
abbrev pub bare : Word → LineRead (List ℕ)
bare w = if w.quoted then Err (w.line, Quoted) else Ok w.octets

-- the first word and those after it; one that is missing is missing where the entry ends
abbrev pub first_word : ℕ → List Word → LineRead (Word × List Word)
first_word line [] = Err (line, Missing)
first_word line (w ∷ ws) = Ok (w, ws)

abbrev pub nothing_more : List Word → LineRead (Unit {0})
nothing_more [] = Ok tt
nothing_more (w ∷ ws) = Err (w.line, Trailing)

abbrev pub FailsAt : {A : Type 0} → ReasonError → Result A EntryReason → Type 0
FailsAt NoMemory read = Unit {0}
FailsAt (Because r) read = read ≡ Err r

-- what a call gives that reads without a line
abbrev pub GivesAt : {X A : Type 0} → (X → A) → Result X ReasonError → Result A EntryReason → Type 0
GivesAt view (Ok x) read = read ≡ Ok (view x)
GivesAt view (Err e) read = FailsAt e read
