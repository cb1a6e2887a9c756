-- Which copies a server keeps of the zones of another configuration (RFC 1034, section 4.3.5).
use Rattle.std.specs.Prelude.{ℕ, Bool, true, ◌≡◌, ◌<◌, ◌≤◌, Contains, List, [], ◌∷◌, ◌++◌, length, Option, Some, None, string_bytes}
use Rattle.std.specs.List.{HoldsAt, position}
use Rattle.std.specs.Option.{option_to_list}
use Rattle.dns_config.specs.declared.config.ZoneEntry.{ZoneEntry}
use Rattle.dns_config.specs.declared.peer.Peer.{Peer}
use Rattle.dns_generation.specs.declared.generation.ZoneSummary.{ZoneSummary}
use Rattle.dns_secondary.specs.declared.timers.SoaTimers.{SoaTimers}
use Rattle.dns_tsig.specs.Keys.{KeyParts}
use Rattle.dns_zone_copies.specs.Secondaries.{SecondaryState, continued, is_of, key_shared}

-- a secondary is that of an entry
abbrev pub is_its : ZoneEntry → SecondaryState → Bool
is_its entry s = is_of entry.primary entry.name.name s

-- where that of an entry stands, if there is one
abbrev pub IsPlaceOf : List SecondaryState → ZoneEntry → Option ℕ → Type 0
IsPlaceOf zones entry None = position (is_its entry) zones ≡ None
IsPlaceOf zones entry (Some place) = (place < length zones) × HoldsAt (λ s. is_its entry s ≡ true) zones place

-- what is known of an entry's zone that was there before
abbrev pub IsKnown : List SecondaryState → ZoneEntry → Option SecondaryState → Type 0
IsKnown zones entry None = position (is_its entry) zones ≡ None
IsKnown zones entry (Some s) = Contains zones s × (is_its entry s ≡ true)

-- the secondary of an entry with a primary goes on with what is known of its zone, under the key that the primary names; the copy that
-- is served was current at some moment
pub record GoesOn (zones : List SecondaryState) (keys : List KeyParts) (entry : ZoneEntry) (primary : Peer) (served : Option SoaTimers)
    (now : ℕ) (s : SecondaryState) : Type 0 where
  pub before : Option SecondaryState
  pub known : IsKnown zones entry before
  pub key : Option KeyParts
  pub shared : key_shared keys primary.key ≡ Some key
  pub current : ℕ
  pub by_now : current ≤ now
  pub follows : s ≡ continued before entry.name.name primary.address key (string_bytes entry.file) served current now

-- an entry has a secondary if it has a primary
abbrev pub HasSecondary : List SecondaryState → List KeyParts → ZoneEntry → Option Peer → Option SoaTimers → ℕ → Option SecondaryState
    → Type 0
HasSecondary zones keys entry None served now s = s ≡ None
HasSecondary zones keys entry (Some p) served now None = ⊥
HasSecondary zones keys entry (Some p) served now (Some s) = GoesOn zones keys entry p served now s

-- those of all entries, each with the summary of its zone, in their order
abbrev pub Follows : List SecondaryState → List KeyParts → List ZoneEntry → List ZoneSummary → ℕ → List SecondaryState → Type 0
Follows zones keys [] summaries now after = after ≡ []
Follows zones keys (entry ∷ entries) [] now after = after ≡ []
Follows zones keys (entry ∷ entries) (summary ∷ summaries) now after =
    (first : Option SecondaryState) × (others : List SecondaryState)
    × HasSecondary zones keys entry entry.primary summary.timers now first × (after ≡ option_to_list first ++ others)
    × Follows zones keys entries summaries now others
