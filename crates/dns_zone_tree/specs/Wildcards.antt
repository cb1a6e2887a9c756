-- Wildcards (RFC 4592): if a name doesn't exist, the records of the wildcard below its closest encloser are given as its own.
use Rattle.std.specs.Prelude.{ℕ, Bool, true, false, List, [], ◌∷◌, map, if◌then◌else◌}
use Rattle.dns_message.specs.declared.record.Record.{Record}
use Rattle.dns_zone.specs.Owned.{ZoneState, asked_records}
use Rattle.dns_zone.specs.ZoneReply.{exists}

-- the label `*` (RFC 4592, section 2.1.1)
abbrev pub star : List ℕ
star = 42 ∷ []

-- the closest encloser of a name: the longest name that it ends with and that exists (section 3.3.1)
abbrev pub encloser : ZoneState → List (List ℕ) → List (List ℕ)
encloser z [] = []
encloser z (l ∷ ls) = if exists z (l ∷ ls) then l ∷ ls else encloser z ls

-- the wildcard that stands for a name that doesn't exist: the source of synthesis (section 3.3.1)
abbrev pub wildcard : ZoneState → List (List ℕ) → List (List ℕ)
wildcard z name = star ∷ encloser z name

-- a record as another name's
abbrev pub given_as : List (List ℕ) → Record → Record
given_as name r = record r { owner = name }

-- the records of a type that a name has: its own if it exists, and else those of the wildcard, as its own
abbrev pub had_records : ZoneState → List (List ℕ) → ℕ → List Record
had_records z name t = if exists z name then asked_records z name t else map (given_as name) (asked_records z (wildcard z name) t)

-- whether a name exists, or the wildcard that stands for it does
abbrev pub is_covered : ZoneState → List (List ℕ) → Bool
is_covered z name = if exists z name then true else exists z (wildcard z name)

abbrev pub are_some : List Record → Bool
are_some [] = false
are_some (r ∷ rs) = true
