-- The OPT items of a request (RFC 6891, section 6.1.1): what stands for an OPT record in its additional section, in order.
use Rattle.std.specs.Prelude.{ℕ, List, [], ◌∷◌, Option, None, Result, Ok, Err, nat_eq, if◌then◌else◌}
use Rattle.dns_name.specs.declared.error.ParseError.{ParseError}
use Rattle.dns_base.specs.Sections.{authority_of, reached, standing_additional}
use Rattle.dns_base.specs.Standing.{Standing}
use Rattle.dns_replies.specs.OptRecords.{OptState, readable_opt}

-- A record of type OPT is an item, none if its data is no option list. An unreadable record is such an item too, and the last.
abbrev pub items_among : List (Result Standing ParseError) → List (Option OptState)
items_among [] = []
items_among (Err e ∷ more) = None ∷ []
items_among (Ok s ∷ more) = if nat_eq s.resource.rtype 41 then readable_opt s.resource ∷ items_among more else items_among more

abbrev pub items_reached : Result (List (Result Standing ParseError)) ParseError → List (Option OptState)
items_reached (Ok more) = items_among more
items_reached (Err e) = []

-- the items of octets that are a message; none if its additional section can't be reached
abbrev pub opt_items : List ℕ → List (Option OptState)
opt_items o = items_reached (reached (authority_of o).1 (standing_additional o))

-- the first item, none if it is no record
abbrev pub first_item : List (Option OptState) → Option OptState
first_item [] = None
first_item (x ∷ xs) = x
