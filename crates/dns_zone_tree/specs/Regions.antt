-- How far the authority of a zone reaches down a name, which is matched label by label from the apex (RFC 1034, section 4.3.2, step 3):
-- to a cut (step 3b), or to a DNAME record above the name (RFC 6672, sections 2.3 and 2.4: what is below one is never reached).
use Rattle.std.specs.Prelude.{ℕ, Bool, true, ◌&&◌, not, List, [], ◌∷◌, nat_eq, if◌then◌else◌}
use Rattle.dns_name.specs.Canonical.{same_name}
use Rattle.dns_message.specs.declared.record.Record.{Record}
use Rattle.dns_zone.specs.Owned.{ZoneState, asked_records}
use Rattle.dns_zone_tree.specs.Wildcards.{are_some}

-- to the name, or no further than to a cut, which has these NS records, or to these DNAME records
pub data Region : Type 0 where
  Within : Region
  BelowCut : List Record → Region
  BelowDname : List Record → Region

-- whether a name is a cut: it has NS records and isn't the apex
abbrev pub is_cut : ZoneState → List (List ℕ) → Bool
is_cut z name = are_some (asked_records z name 2) && not (same_name name z.apex)

-- one label further down, to a name below its parent; whether it may be a cut is said
abbrev pub down : ZoneState → Bool → List (List ℕ) → List (List ℕ) → Region → Region
down z cuts name parent (BelowCut rs) = BelowCut rs
down z cuts name parent (BelowDname rs) = BelowDname rs
down z cuts name parent Within =
    if are_some (asked_records z parent 39) then BelowDname (asked_records z parent 39)
    else (if cuts && is_cut z name then BelowCut (asked_records z name 2)
    else Within)

abbrev pub region : ZoneState → List (List ℕ) → Region
region z [] = Within
region z (l ∷ ls) = down z true (l ∷ ls) ls (region z ls)

-- if a type is asked for: DS at a cut is the parent's (RFC 4035, section 3.1.4.1)
abbrev pub asked_region : ZoneState → ℕ → List (List ℕ) → Region
asked_region z t [] = Within
asked_region z t (l ∷ ls) = down z (not (nat_eq t 43)) (l ∷ ls) ls (region z ls)
