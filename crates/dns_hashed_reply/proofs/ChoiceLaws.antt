-- Places that are chosen name by name, each once.
use Rattle.std.proofs.Common.{◌≡◌, ℕ, ◌+◌, ◌≤◌, ◌<◌, Bool, true, false, List, [], ◌∷◌, ◌++◌, length, take, get_or, map, cond, nat_eq, refl, ap, sym, subst, ◌∙◌, arith, append-nil}
use Rattle.std.specs.Prelude.{◌||◌, if◌then◌else◌, Some, None}
use Rattle.std.specs.List.{filter, flat_map, list_any}
use Rattle.std.proofs.lemmas.Bool.{true≢false, or_parts}
use Rattle.std.proofs.lemmas.List.{take_all, take_more}
use Rattle.std.proofs.lemmas.List.Concat.{flat_map-append}
use Rattle.std.proofs.lemmas.List.Elements.{filter-append}
use Rattle.std.proofs.lemmas.List.Folds.{list_any-append}
use Rattle.dns_message.specs.declared.question.Question.{Question}
use Rattle.dns_message.specs.declared.record.Record.{Record}
use Rattle.dns_route.specs.Routes.{ends_name}
use Rattle.dns_zone.specs.Owned.{is_of, target}
use Rattle.dns_zone.specs.ZoneReply.{follows}
use Rattle.dns_denial.specs.Nsec3.{closer, is_matched, provable}
use Rattle.dns_signed_reply.specs.SignedReplies.{asked_names, led_by, led_to}
use Rattle.dns_hashed_zone.specs.HashedStates.{HashedState}
use Rattle.dns_hashed_zone.specs.Searches.{near_place}
use Rattle.dns_hashed_reply.specs.Choices.{Adds, AddsFor, inside, names_places}
use Rattle.dns_hashed_reply.specs.HashedReplies.{behind_once, encloser_proof, fails, fails_at, own_proof, places, places_of}
use Rattle.dns_hashed_reply.specs.declared.denials.Chosen.{Chosen}

-- ---- each once

pub twice : (seen ks ls : List ℕ) → behind_once seen (ks ++ ls) ≡ behind_once (behind_once seen ks) ls
twice seen [] ls = refl
twice seen (k ∷ ks) ls = by_test (list_any (nat_eq k) seen) (twice seen ks ls) (twice (seen ++ k ∷ []) ks ls)
  where
    by_test : (b : Bool) → behind_once seen (ks ++ ls) ≡ behind_once (behind_once seen ks) ls → behind_once (seen ++ k ∷ []) (ks ++ ls) ≡ behind_once (behind_once (seen ++ k ∷ []) ks) ls
        → (if b then behind_once seen (ks ++ ls) else behind_once (seen ++ k ∷ []) (ks ++ ls)) ≡ behind_once (if b then behind_once seen ks else behind_once (seen ++ k ∷ []) ks) ls
    by_test true t f = t
    by_test false t f = f

-- ---- places that are added

or_both : (a f g : Bool) → ((a || f) || g) ≡ (a || (f || g))
or_both true f g = refl
or_both false f g = refl

or_none : (a : Bool) → a ≡ (a || false)
or_none true = refl
or_none false = refl

or_some : (a : Bool) → true ≡ (a || true)
or_some true = refl
or_some false = refl

pub adds_none : (c : Chosen) → Adds c c false []
adds_none c = record { said = or_none c.collides; added = λ e. refl }

pub adds_again : (c : Chosen) (k : ℕ) → list_any (nat_eq k) c.places.items ≡ true → Adds c c false (k ∷ [])
adds_again c k h = record { said = or_none c.collides; added = λ e. ap (λ (b : Bool). if b then c.places.items else c.places.items ++ k ∷ []) (sym h) }

pub adds_more : (old new : Chosen) (k : ℕ) → new.collides ≡ old.collides → list_any (nat_eq k) old.places.items ≡ false → new.places.items ≡ old.places.items ++ k ∷ [] → Adds old new false (k ∷ [])
adds_more old new k c h e = record {
  said = c ∙ or_none old.collides;
  added = λ f. e ∙ ap (λ (b : Bool). if b then old.places.items else old.places.items ++ k ∷ []) (sym h);
}

pub adds_fails : (old new : Chosen) (f : Bool) (ks : List ℕ) → new.collides ≡ true → f ≡ true → Adds old new f ks
adds_fails old new f ks e h = record {
  said = e ∙ (or_some old.collides ∙ sym (ap (λ (x : Bool). old.collides || x) h));
  added = λ g. absurd (true≢false (sym e ∙ g));
}

pub adds_then : (a b c : Chosen) (f g : Bool) (ks ls : List ℕ) → Adds a b f ks → Adds b c g ls → Adds a c (f || g) (ks ++ ls)
adds_then a b c f g ks ls h k = record {
  said = k.said ∙ (ap (λ (x : Bool). x || g) h.said ∙ or_both a.collides f g);
  added = λ e. k.added e ∙ (ap (λ (l : List ℕ). behind_once l ls) (h.added (or_parts b.collides g (sym k.said ∙ e)).0) ∙ sym (twice a.places.items ks ls));
}

pub adds_as : (a b : Chosen) (f g : Bool) (ks ls : List ℕ) → f ≡ g → ks ≡ ls → Adds a b f ks → Adds a b g ls
adds_as a b f g ks ls e k h = subst (λ (x : Bool). Adds a b x ls) e (subst (λ (l : List ℕ). Adds a b f l) k h)

-- ---- of a name that exists

module _ (s : HashedState) where
  pub own_places : (name : List (List ℕ)) (place : ℕ) → is_matched s.hashing s.nsec3s name ≡ true → place ≡ near_place s.hashing s.nsec3s name → place ∷ [] ≡ names_places s (own_proof s name)
  own_places name place m e =
      ap (λ (k : ℕ). k ∷ []) e ∙ sym (ap (λ (b : Bool). map (near_place s.hashing s.nsec3s) (if b then name ∷ [] else encloser_proof s name)) m)

  pub spared_places : (name : List (List ℕ)) (x y : ℕ) → is_matched s.hashing s.nsec3s name ≡ false → x ≡ near_place s.hashing s.nsec3s (provable s.hashing s.nsec3s name)
      → y ≡ near_place s.hashing s.nsec3s (closer s.hashing s.nsec3s name) → x ∷ y ∷ [] ≡ names_places s (own_proof s name)
  spared_places name x y m e f =
      let both : x ∷ y ∷ [] ≡ names_places s (encloser_proof s name) = λ i. e i ∷ f i ∷ [] in
      both ∙ sym (ap (λ (b : Bool). map (near_place s.hashing s.nsec3s) (if b then name ∷ [] else encloser_proof s name)) m)

  -- ---- of names that are asked for

  module _ (t : ℕ) where
    pub for_one : (old new : Chosen) (name : List (List ℕ)) (f : Bool) (ks : List ℕ) → f ≡ fails_at s t name → ks ≡ places_of s t name → Adds old new f ks → AddsFor s t (name ∷ []) old new
    for_one old new name f ks e k h =
        adds_as old new f (fails_at s t name || false) ks (places_of s t name ++ []) (e ∙ or_none (fails_at s t name)) (k ∙ sym (append-nil (places_of s t name))) h

    pub for_none : (c : Chosen) → AddsFor s t [] c c
    for_none c = adds_none c

    pub for_more : (a b c : Chosen) (xs ys : List (List (List ℕ))) → AddsFor s t xs a b → AddsFor s t ys b c → AddsFor s t (xs ++ ys) a c
    for_more a b c xs ys h k =
        adds_as a c (list_any (fails_at s t) xs || list_any (fails_at s t) ys) (list_any (fails_at s t) (xs ++ ys))
        (flat_map (places_of s t) xs ++ flat_map (places_of s t) ys) (flat_map (places_of s t) (xs ++ ys))
        (sym (list_any-append (fails_at s t) xs ys)) (sym (flat_map-append (places_of s t) xs ys))
        (adds_then a b c (list_any (fails_at s t) xs) (list_any (fails_at s t) ys) (flat_map (places_of s t) xs) (flat_map (places_of s t) ys) h k)

    -- of those in the zone
    pub inside_one : (name : List (List ℕ)) (old new : Chosen) → ends_name name s.zone.apex ≡ true → AddsFor s t (name ∷ []) old new → AddsFor s t (inside s (name ∷ [])) old new
    inside_one name old new h = subst (λ (b : Bool). AddsFor s t (cond b (name ∷ []) []) old new) (sym h)

    pub outside_none : (name : List (List ℕ)) (c : Chosen) → ends_name name s.zone.apex ≡ false → AddsFor s t (inside s (name ∷ [])) c c
    outside_none name c h = subst (λ (b : Bool). AddsFor s t (cond b (name ∷ []) []) c c) (sym h) (adds_none c)

    -- of the targets of aliases
    pub target_start : (rs : List Record) (c : Chosen) → AddsFor s t (inside s (flat_map led_to (take 0 rs))) c c
    target_start rs c = adds_none c

    pub target_next : (rs : List Record) (i : ℕ) (r : Record) (old now new : Chosen) → i < length rs → r ≡ get_or rs i r
        → AddsFor s t (inside s (flat_map led_to (take i rs))) old now → AddsFor s t (inside s (led_to r)) now new → AddsFor s t (inside s (flat_map led_to (take (i + 1) rs))) old new
    target_next rs i r old now new h q e f =
        let p = λ (name : List (List ℕ)). ends_name name s.zone.apex in
        let k : flat_map led_to (take (i + 1) rs) ≡ flat_map led_to (take i rs) ++ led_to r =
        ap (flat_map led_to) (take_more rs i r h ∙ ap (λ (x : Record). take i rs ++ x ∷ []) (sym q)) ∙ (flat_map-append led_to (take i rs) (r ∷ []) ∙ ap (λ (l : List (List (List ℕ))). flat_map led_to (take i rs) ++ l) (append-nil (led_to r))) in
        let j : inside s (flat_map led_to (take (i + 1) rs)) ≡ inside s (flat_map led_to (take i rs)) ++ inside s (led_to r) = ap (inside s) k ∙ filter-append p (flat_map led_to (take i rs)) (led_to r) in
        subst (λ (l : List (List (List ℕ))). AddsFor s t l old new) (sym j) (for_more old now new (inside s (flat_map led_to (take i rs))) (inside s (led_to r)) e f)

    pub target_all : (rs : List Record) (i : ℕ) (old now : Chosen) → length rs ≤ i → AddsFor s t (inside s (flat_map led_to (take i rs))) old now → AddsFor s t (inside s (flat_map led_to rs)) old now
    target_all rs i old now h = subst (λ (l : List Record). AddsFor s t (inside s (flat_map led_to l)) old now) (take_all i rs h)

-- the target of a record
pub target_alias : (r : Record) (name : List (List ℕ)) → is_of 5 r ≡ true → Some name ≡ target r.rdata → name ∷ [] ≡ led_to r
target_alias r name h e = ap led_by e ∙ sym (ap (λ (b : Bool). if b then led_by (target r.rdata) else []) h)

pub target_nowhere : (r : Record) → is_of 5 r ≡ true → None ≡ target r.rdata → [] ≡ led_to r
target_nowhere r h e = ap led_by e ∙ sym (ap (λ (b : Bool). if b then led_by (target r.rdata) else []) h)

pub target_other : (r : Record) → is_of 5 r ≡ false → [] ≡ led_to r
target_other r h = sym (ap (λ (b : Bool). if b then led_by (target r.rdata) else []) h)

-- ---- all of a reply

module _ (s : HashedState) (q : Question) (answers : List Record) (t : ℕ) (e : t ≡ q.qtype) (name : List (List ℕ)) (n : name ≡ q.qname) where
  pub alone : (old new : Chosen) → AddsFor s t (name ∷ []) old new → follows t ≡ false → AddsFor s q.qtype (asked_names s.zone q answers) old new
  alone old new h f =
      let k : name ∷ [] ≡ asked_names s.zone q answers = ap (λ (x : List (List ℕ)). x ∷ []) n ∙ sym (ap (λ (b : Bool). q.qname ∷ (if b then inside s (flat_map led_to answers) else [])) (ap follows (sym e) ∙ f)) in
      subst (λ (u : ℕ). AddsFor s u (asked_names s.zone q answers) old new) e (subst (λ (l : List (List (List ℕ))). AddsFor s t l old new) k h)

  pub with_targets : (old mid new : Chosen) → AddsFor s t (name ∷ []) old mid → AddsFor s t (inside s (flat_map led_to answers)) mid new → follows t ≡ true → AddsFor s q.qtype (asked_names s.zone q answers) old new
  with_targets old mid new h k f =
      let l : name ∷ inside s (flat_map led_to answers) ≡ asked_names s.zone q answers =
      ap (λ (x : List (List ℕ)). x ∷ inside s (flat_map led_to answers)) n ∙ sym (ap (λ (b : Bool). q.qname ∷ (if b then inside s (flat_map led_to answers) else [])) (ap follows (sym e) ∙ f)) in
      subst (λ (u : ℕ). AddsFor s u (asked_names s.zone q answers) old new) e (subst (λ (l : List (List (List ℕ))). AddsFor s t l old new) l (for_more s t old mid new (name ∷ []) (inside s (flat_map led_to answers)) h k))

-- what is chosen, where nothing was before
module _ (s : HashedState) (q : Question) (answers : List Record) (old new : Chosen) (h : AddsFor s q.qtype (asked_names s.zone q answers) old new) (c : old.collides ≡ false) (p : old.places.items ≡ []) where
  pub all_said : new.collides ≡ fails s q answers
  all_said = h.said ∙ ap (λ (b : Bool). b || fails s q answers) c

  pub all_places : new.collides ≡ false → new.places.items ≡ places s q answers
  all_places e = h.added e ∙ ap (λ (l : List ℕ). behind_once l (flat_map (places_of s q.qtype) (asked_names s.zone q answers))) p
