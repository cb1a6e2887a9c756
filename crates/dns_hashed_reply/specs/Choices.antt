-- The NSEC3s that are chosen name by name.
use Rattle.std.specs.Prelude.{ℕ, ◌≡◌, Bool, false, ◌||◌, List, map}
use Rattle.std.specs.List.{filter, flat_map, list_any}
use Rattle.dns_route.specs.Routes.{ends_name}
use Rattle.dns_hashed_zone.specs.HashedStates.{HashedState}
use Rattle.dns_hashed_zone.specs.Searches.{near_place}
use Rattle.dns_hashed_reply.specs.HashedReplies.{behind_once, fails_at, places_of}
use Rattle.dns_hashed_reply.specs.declared.denials.Chosen.{Chosen}

-- places are chosen after those that were, each once; or it is said that a hash collides
pub record Adds (old new : Chosen) (failed : Bool) (ks : List ℕ) : Type 0 where
  pub said : new.collides ≡ (old.collides || failed)
  pub added : new.collides ≡ false → new.places.items ≡ behind_once old.places.items ks

-- the places for some names
abbrev pub names_places : HashedState → List (List (List ℕ)) → List ℕ
names_places s names = map (near_place s.hashing s.nsec3s) names

-- those for names that are asked for
abbrev pub AddsFor : HashedState → ℕ → List (List (List ℕ)) → Chosen → Chosen → Type 0
AddsFor s t names old new = Adds old new (list_any (fails_at s t) names) (flat_map (places_of s t) names)

abbrev pub inside : HashedState → List (List (List ℕ)) → List (List (List ℕ))
inside s names = filter (λ (name : List (List ℕ)). ends_name name s.zone.apex) names
