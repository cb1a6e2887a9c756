-- Aliases: the CNAME of a name, and what it leads to (RFC 1034, sections 3.6.2 and 4.3.2, step 3a).
use Rattle.std.specs.Prelude.{ℕ, zero, suc, Bool, ◌&&◌, not, List, [], ◌∷◌, if◌then◌else◌, Option, Some, None}
use Rattle.dns_message.specs.declared.record.Record.{Record}
use Rattle.dns_route.specs.Routes.{ends_name}
use Rattle.dns_zone.specs.Owned.{ZoneState, asked_records, target}
use Rattle.dns_zone.specs.Cuts.{is_cut_off}

-- whether a zone is asked on for a name: it is at or below the apex, and not at or below a cut
abbrev pub is_within : ZoneState → List (List ℕ) → Bool
is_within z name = ends_name name z.apex && not (is_cut_off z name)

-- what go gives of a target, if the zone is asked on for it
abbrev pub gone_on : ZoneState → (List (List ℕ) → List Record) → Option (List (List ℕ)) → List Record
gone_on z go None = []
gone_on z go (Some name) = if is_within z name then go name else []

-- the alias among a name's CNAMEs, and what go gives of its target; without one the records that were found
abbrev pub aliased : ZoneState → (List (List ℕ) → List Record) → List Record → List Record → List Record
aliased z go [] found = found
aliased z go (c ∷ cs) found = c ∷ gone_on z go (target c.rdata)

-- if no further CNAME is given: the records that were found, of a name without one
abbrev pub unaliased : List Record → List Record → List Record
unaliased [] found = found
unaliased (c ∷ cs) found = []

-- the answers of a type from a name on, of which k at most are CNAMEs
unfoldable pub followed : ZoneState → ℕ → ℕ → List (List ℕ) → List Record
followed z t zero name = unaliased (asked_records z name 5) (asked_records z name t)
followed z t (suc k) name = aliased z (followed z t k) (asked_records z name 5) (asked_records z name t)
