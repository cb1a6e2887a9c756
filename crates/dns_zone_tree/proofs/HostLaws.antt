-- The addresses of hosts.
use Rattle.std.proofs.Common.{◌≡◌, ℕ, ◌+◌, ◌<◌, Bool, true, false, List, [], ◌∷◌, ◌++◌, length, take, cond, get_or, nat_eq, Option, Some, None, refl, ap, sym, subst, ◌∙◌, arith}
use Rattle.std.specs.Prelude.{◌||◌}
use Rattle.std.specs.List.{list_any, slice_get}
use Rattle.std.specs.Ordering.{is_eq, nat_cmp}
use Rattle.std.proofs.lemmas.List.Folds.{list_any-append}
use Rattle.std.proofs.lemmas.List.Elements.{filter_map-append}
use Rattle.dns_message.specs.declared.record.Record.{Record}
use Rattle.dns_zone.specs.Cuts.{is_address_at, is_address_of, is_glue}
use Rattle.dns_zone.specs.Owned.{ZoneState, is_asked, target}
use Rattle.dns_zone.specs.Places.{at_places, passes}
use Rattle.dns_zone.proofs.GlueLaws.{address_of, passes_agree, passes_either, passes_none, set_more}
use Rattle.dns_zone.proofs.PlaceLaws.{is_place}
use Rattle.dns_zone_tree.specs.Kinds.{kind_places, places_in, places_of}
use Rattle.dns_zone_tree.specs.declared.kinds.Kinds.{Kinds}
use Rattle.dns_zone_tree.specs.declared.kinds.TypedPlace.{TypedPlace}
use Rattle.dns_zone_tree.specs.Walks.{IsNode}
use Rattle.dns_zone_tree.proofs.KindLaws.{places_next}

or_assoc : (a b c : Bool) → ((a || b) || c) ≡ (a || (b || c))
or_assoc true b c = refl
or_assoc false b c = refl

or_none : (b : Bool) → b ≡ (b || false)
or_none true = refl
or_none false = refl

module _ (z : ZoneState) (name host : List (List ℕ)) (o : Option Kinds) (i : ℕ) (node : IsNode z name o) (same : name ≡ host) where
  at_type : (t : ℕ) → list_any (nat_eq i) (places_in t o) ≡ passes (is_asked host t) (slice_get z.records i)
  at_type t = ap (list_any (nat_eq i)) (node.kept t) ∙ (is_place (is_asked name t) z.records i ∙ ap (λ (n : List (List ℕ)). passes (is_asked n t) (slice_get z.records i)) same)

  both : (old : Bool) → ((old || list_any (nat_eq i) (places_in 1 o)) || list_any (nat_eq i) (places_in 28 o)) ≡ (old || passes (is_address_of host) (slice_get z.records i))
  both old =
      (λ j. (old || at_type 1 j) || at_type 28 j)
      ∙ (or_assoc old (passes (is_asked host 1) (slice_get z.records i)) (passes (is_asked host 28) (slice_get z.records i)) ∙ ap (λ (b : Bool). old || b) (address_of host (slice_get z.records i)))

pub host_added : (z : ZoneState) (name host : List (List ℕ)) (m : Kinds) (o : Option Kinds) (i : ℕ) (old : Bool) → IsNode z name o → o ≡ Some m → name ≡ host →
    ((old || list_any (nat_eq i) (kind_places 1 m)) || list_any (nat_eq i) (kind_places 28 m)) ≡ (old || passes (is_address_of host) (slice_get z.records i))
host_added z name host m o i old node e same = both z name host (Some m) i (subst (λ (x : Option Kinds). IsNode z name x) e node) same old

none_twice : (old : Bool) → old ≡ ((old || false) || false)
none_twice true = refl
none_twice false = refl

pub host_none : (z : ZoneState) (name host : List (List ℕ)) (o : Option Kinds) (i : ℕ) (old : Bool) → IsNode z name o → o ≡ None → name ≡ host → old ≡ (old || passes (is_address_of host) (slice_get z.records i))
host_none z name host o i old node e same = none_twice old ∙ both z name host None i (subst (λ (x : Option Kinds). IsNode z name x) e node) same old

-- ---- places that are added to a set

-- one
pub place_added : (new old : Bool) (i k : ℕ) → new ≡ cond (is_eq (nat_cmp k i)) true old → new ≡ (old || list_any (nat_eq i) (k ∷ []))
place_added new old i k h = set_more new old old i k 0 (k ∷ []) h (or_none old) (omega arith) refl

-- none
pub none_added : (old : Bool) (i : ℕ) (is : List ℕ) → is ≡ [] → old ≡ (old || list_any (nat_eq i) is)
none_added old i is e = or_none old ∙ ap (λ (x : List ℕ). old || list_any (nat_eq i) x) (sym e)

pub some_added : (new old : Bool) (i k : ℕ) (is : List ℕ) → is ≡ k ∷ [] → new ≡ cond (is_eq (nat_cmp k i)) true old → new ≡ (old || list_any (nat_eq i) is)
some_added new old i k is e h = place_added new old i k h ∙ ap (λ (x : List ℕ). old || list_any (nat_eq i) x) (sym e)

-- those of one place with its type more
pub kinds_added : (t : ℕ) (ks : List TypedPlace) (j i : ℕ) (d : TypedPlace) (new now old : Bool) → j < length ks → new ≡ (now || list_any (nat_eq i) (places_of t (get_or ks j d ∷ []))) → now ≡ (old || list_any (nat_eq i) (places_of t (take j ks))) →
    new ≡ (old || list_any (nat_eq i) (places_of t (take (j + 1) ks)))
kinds_added t ks j i d new now old h e f =
    let x = places_of t (take j ks) in
    let y = places_of t (get_or ks j d ∷ []) in
    e
    ∙ (ap (λ (b : Bool). b || list_any (nat_eq i) y) f
    ∙ (or_assoc old (list_any (nat_eq i) x) (list_any (nat_eq i) y)
    ∙ ap (λ (b : Bool). old || b) (sym (ap (list_any (nat_eq i)) (places_next t ks j d h) ∙ list_any-append (nat_eq i) x y))))

-- ---- servers

glue_join : (rs : List Record) (xs ys : List ℕ) (o : Option Record) → passes (is_glue (at_places rs (xs ++ ys))) o ≡ (passes (is_glue (at_places rs xs)) o || passes (is_glue (at_places rs ys)) o)
glue_join rs xs ys o =
    passes_agree (is_glue (at_places rs (xs ++ ys))) (λ (r : Record). is_glue (at_places rs xs) r || is_glue (at_places rs ys) r)
    (λ r. ap (list_any (λ (s : Record). is_address_at (target s.rdata) r)) (filter_map-append (slice_get rs) xs ys) ∙ list_any-append (λ (s : Record). is_address_at (target s.rdata) r) (at_places rs xs) (at_places rs ys)) o
    ∙ passes_either (is_glue (at_places rs xs)) (is_glue (at_places rs ys)) o

-- the addresses of one server
one_glue : (s r : Record) → is_address_at (target s.rdata) r ≡ is_glue (s ∷ []) r
one_glue s r = or_none (is_address_at (target s.rdata) r)

pub server_glue : (rs : List Record) (is : List ℕ) (s : Record) (new old : Bool) (o : Option Record) → at_places rs is ≡ s ∷ [] → new ≡ (old || passes (is_address_at (target s.rdata)) o) → new ≡ (old || passes (is_glue (at_places rs is)) o)
server_glue rs is s new old o e h =
    h ∙ (ap (λ (b : Bool). old || b) (passes_agree (is_address_at (target s.rdata)) (is_glue (s ∷ [])) (one_glue s) o) ∙ ap (λ (l : List Record). old || passes (is_glue l) o) (sym e))

pub no_glue : (rs : List Record) (is : List ℕ) (old : Bool) (o : Option Record) → at_places rs is ≡ [] → old ≡ (old || passes (is_glue (at_places rs is)) o)
no_glue rs is old o e = or_none old ∙ (ap (λ (b : Bool). old || b) (sym (passes_none o)) ∙ ap (λ (l : List Record). old || passes (is_glue l) o) (sym e))

-- no host
pub no_host : (a : Option (List (List ℕ))) (old : Bool) (o : Option Record) → a ≡ None → old ≡ (old || passes (is_address_at a) o)
no_host a old o e = or_none old ∙ (ap (λ (b : Bool). old || b) (sym (passes_none o)) ∙ ap (λ (x : Option (List (List ℕ))). old || passes (is_address_at x) o) (sym e))

-- of one place with its type more
pub servers_added : (rs : List Record) (ks : List TypedPlace) (j i : ℕ) (d : TypedPlace) (new old : Bool) → j < length ks → new ≡ (old || passes (is_glue (at_places rs (places_of 2 (get_or ks j d ∷ [])))) (slice_get rs i)) →
    old ≡ passes (is_glue (at_places rs (places_of 2 (take j ks)))) (slice_get rs i) → new ≡ passes (is_glue (at_places rs (places_of 2 (take (j + 1) ks)))) (slice_get rs i)
servers_added rs ks j i d new old h e f =
    let y = places_of 2 (get_or ks j d ∷ []) in
    e
    ∙ (ap (λ (b : Bool). b || passes (is_glue (at_places rs y)) (slice_get rs i)) f
    ∙ (sym (glue_join rs (places_of 2 (take j ks)) y (slice_get rs i)) ∙ ap (λ (l : List ℕ). passes (is_glue (at_places rs l)) (slice_get rs i)) (sym (places_next 2 ks j d h))))
