-- The options of a list that a type reads, in order (RFC 6891, section 6.1.2).
use Rattle.std.specs.Prelude.{◌≡◌, ℕ, List, [], ◌∷◌, Option, Some, None, Result, Ok, Err, unwrap_or}
use Rattle.dns_name.specs.declared.error.ParseError.{ParseError}
use Rattle.dns_name.specs.OptData.{Taken, all_taken, kind}
use Rattle.dns_message.specs.Options.{options, option_list}

-- an option's value in front of those after it; none if it is not read, and a refusal is the last
abbrev pub with_item : {X : Type 0} → Option (Result X ParseError) → List (Result X ParseError) → List (Result X ParseError)
with_item None more = more
with_item (Some (Ok x)) more = Ok x ∷ more
with_item (Some (Err e)) more = Err e ∷ []

-- of codes and data
abbrev pub items : {X : Type 0} → (ℕ → List ℕ → Option (Taken X)) → List (ℕ × List ℕ) → List (Result X ParseError)
items takes [] = []
items takes (p ∷ ps) = with_item (kind takes p.0 p.1) (items takes ps)

-- of octets, none if they are no list
abbrev pub items_of : {X : Type 0} → (ℕ → List ℕ → Option (Taken X)) → List ℕ → List (Result X ParseError)
items_of takes o = items takes (unwrap_or (options o) [])

-- the first value, none if it is refused
abbrev pub first_ok : {X : Type 0} → List (Result X ParseError) → Option X
first_ok [] = None
first_ok (Ok x ∷ xs) = Some x
first_ok (Err e ∷ xs) = None

-- what an iterator over a list gives, and the list that it leaves
abbrev pub NextItem : {X : Type 0} → List X → Option X → List X → Type 0
NextItem old None new = (old ≡ []) × (new ≡ [])
NextItem old (Some x) new = old ≡ x ∷ new

-- a list is taken whole
abbrev pub list_taken : List ℕ → Taken (List ℕ)
list_taken d = all_taken d (option_list d)
