-- What iterators give of a message (RFC 1035, section 4.1), up to their first refusal.
use Rattle.std.specs.Prelude.{List, [], ◌∷◌, map, Result, Ok, Err}
use Rattle.dns_name.specs.declared.error.ParseError.{ParseError}
use Rattle.dns_base.specs.Msg.{ResourceRecord}
use Rattle.dns_base.specs.Standing.{Standing}

-- the items that an iterator gives before its first refusal
abbrev pub readable_items : {A : Type 0} → List (Result A ParseError) → List A
readable_items [] = []
readable_items (Ok x ∷ more) = x ∷ readable_items more
readable_items (Err e ∷ more) = []

-- the records among them, their data as octets
abbrev pub resources : List (Result Standing ParseError) → List ResourceRecord
resources items = map (λ (s : Standing). s.resource) (readable_items items)

-- no item is a refusal
abbrev pub AreReadable : {A : Type 0} → List (Result A ParseError) → Type 0
AreReadable [] = Unit {0}
AreReadable (Ok x ∷ more) = AreReadable more
AreReadable (Err e ∷ more) = ⊥
