-- The origin and the owner after an included text.
use Rattle.std.proofs.Common.{◌≡◌, ℕ, zero, suc, List, [], ◌∷◌, ◌++◌, Ok, Err, ap, sym}
use Rattle.dns_entries.specs.Reading.{◌>>=◌}
use Rattle.dns_zone_file.specs.ZoneFile.{ZoneDraft, place_of}
use Rattle.dns_zone_include.specs.Including.{Texts, included, one_text, place_again, some_text, text_of, unless_open}
use Rattle.dns_zone_include.specs.Refusals.{TextRead}
use Rattle.dns_zone_include.specs.declared.inclusion.Inclusion.{Inclusion}

-- what is left of one that is read
behind_text : (x : TextRead ZoneDraft) (d e : ZoneDraft) → (x >>= λ b. Ok (place_again d b)) ≡ Ok e → place_of e ≡ place_of d
behind_text (Ok b) d e h = let q : place_again d b ≡ e = cc in ap place_of (sym q)
behind_text (Err r) d e h = cc

behind_found : (t : TextRead (List ℕ)) (go : List ℕ → TextRead ZoneDraft) (d e : ZoneDraft) → (t >>= λ text. go text >>= λ b. Ok (place_again d b)) ≡ Ok e → place_of e ≡ place_of d
behind_found (Ok text) go d e h = behind_text (go text) d e h
behind_found (Err r) go d e h = cc

behind_test : (u : TextRead (Unit {0})) (t : TextRead (List ℕ)) (go : List ℕ → TextRead ZoneDraft) (d e : ZoneDraft) → (u >>= λ _. t >>= λ text. go text >>= λ b. Ok (place_again d b)) ≡ Ok e → place_of e ≡ place_of d
behind_test (Ok v) t go d e h = behind_found t go d e h
behind_test (Err r) t go d e h = cc

pub same_place : (texts : Texts) (n : ℕ) (names : List (List ℕ)) (name : List ℕ) (d e : ZoneDraft) (i : Inclusion) → included texts n names name d i ≡ Ok e → place_of e ≡ place_of d
unfolding included one_text
same_place texts zero names name d e i h = cc
same_place texts (suc n) names name d e i h =
    behind_test (unless_open names name i) (some_text name i (texts i.name)) (λ text. text_of i.name (included texts n (names ++ i.name ∷ []) i.name) (record d { origin = i.origin }) text) d e h
