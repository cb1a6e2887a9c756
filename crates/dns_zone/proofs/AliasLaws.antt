-- Aliases that are followed, as places.
use Rattle.std.proofs.Common.{◌≡◌, ℕ, zero, suc, ◌+◌, ◌-◌, ◌<◌, true, false, List, [], ◌∷◌, ◌++◌, length, Some, None, Bor, refl, ap, sym, ◌∙◌, arith, append_assoc, append-nil}
use Rattle.std.specs.Prelude.{◌&&◌, not, if◌then◌else◌}
use Rattle.std.specs.List.{cons_option, list_any, slice_get}
use Rattle.std.proofs.lemmas.List.Elements.{filter_map-append}
use Rattle.dns_message.specs.declared.record.Record.{Record}
use Rattle.dns_route.specs.Routes.{ends_name}
use Rattle.dns_zone.specs.declared.aliases.Lead.TheVariants.{Alias}
use Rattle.dns_zone.specs.Aliases.{aliased, followed, gone_on, is_within, unaliased}
use Rattle.dns_zone.specs.Cuts.{is_cut_off}
use Rattle.dns_zone.specs.Found.{AreAliases, TargetLeadsTo, target_of}
use Rattle.dns_zone.specs.Owned.{ZoneState, asked_records, is_asked, target}
use Rattle.dns_zone.specs.Places.{at_places, places}
use Rattle.dns_zone.proofs.PlaceLaws.{at_places_of, first_place, no_records}

module _ (z : ZoneState) (t : ℕ) where
  -- ---- what a name leads to

  not_within : (name : List (List ℕ)) → is_within z name ≡ false → (k : ℕ) → gone_on z (followed z t k) (Some name) ≡ []
  not_within name h k = ap (λ b. if b then followed z t k name else []) h

  is_in : (name : List (List ℕ)) → ends_name name z.apex ≡ true → is_cut_off z name ≡ false → is_within z name ≡ true
  is_in name e c = ap (λ b. b && not (is_cut_off z name)) e ∙ ap (λ b. not b) c

  pub leads_outside : (name : List (List ℕ)) → ends_name name z.apex ≡ false → (k : ℕ) → gone_on z (followed z t k) (Some name) ≡ []
  leads_outside name e = not_within name (ap (λ b. b && not (is_cut_off z name)) e)

  pub leads_cut : (name : List (List ℕ)) → ends_name name z.apex ≡ true → is_cut_off z name ≡ true → (k : ℕ) → gone_on z (followed z t k) (Some name) ≡ []
  leads_cut name e c = not_within name (ap (λ b. b && not (is_cut_off z name)) e ∙ ap (λ b. not b) c)

  leads_on : (name : List (List ℕ)) → ends_name name z.apex ≡ true → is_cut_off z name ≡ false → (k : ℕ) → gone_on z (followed z t k) (Some name) ≡ followed z t k name
  leads_on name e c k = ap (λ b. if b then followed z t k name else []) (is_in name e c)

  -- an alias
  pub leads_alias : (name : List (List ℕ)) (next : Bor (List ℕ)) → ends_name name z.apex ≡ true → is_cut_off z name ≡ false → next.now ≡ places (is_asked name 5) z.records → 0 < length next.now → TargetLeadsTo z t (Some name) (Alias next)
  leads_alias name next e c p s = (name, record { places = p; some = s }, leads_on name e c)

  unaliased_name : (name : List (List ℕ)) → asked_records z name 5 ≡ [] → (k : ℕ) → followed z t k name ≡ asked_records z name t
  unfolding followed
  unaliased_name name h zero = ap (λ cs. unaliased cs (asked_records z name t)) h
  unaliased_name name h (suc k) = ap (λ cs. aliased z (followed z t k) cs (asked_records z name t)) h

  -- records of the type
  pub leads_found : (name : List (List ℕ)) (is : List ℕ) → ends_name name z.apex ≡ true → is_cut_off z name ≡ false → list_any (is_asked name 5) z.records ≡ false → is ≡ places (is_asked name t) z.records → (k : ℕ) → gone_on z (followed z t k) (Some name) ≡ at_places z.records is
  leads_found name is e c n p k =
      leads_on name e c k
      ∙ (unaliased_name name (no_records (is_asked name 5) z.records n) k ∙ (sym (at_places_of (is_asked name t) z.records) ∙ ap (at_places z.records) (sym p)))

  -- none of the type
  pub leads_nowhere : (name : List (List ℕ)) → ends_name name z.apex ≡ true → is_cut_off z name ≡ false → list_any (is_asked name 5) z.records ≡ false → list_any (is_asked name t) z.records ≡ false → (k : ℕ) → gone_on z (followed z t k) (Some name) ≡ []
  leads_nowhere name e c n m k = leads_on name e c k ∙ (unaliased_name name (no_records (is_asked name 5) z.records n) k ∙ no_records (is_asked name t) z.records m)

  -- ---- aliases, one after another

  followed_more : (name : List (List ℕ)) (k : ℕ) (c : Record) (cs : List Record) → asked_records z name 5 ≡ c ∷ cs → followed z t (suc k) name ≡ c ∷ gone_on z (followed z t k) (target c.rdata)
  unfolding followed
  followed_more name k c cs h = ap (λ cs. aliased z (followed z t k) cs (asked_records z name t)) h

  followed_last : (name : List (List ℕ)) (c : Record) (cs : List Record) → asked_records z name 5 ≡ c ∷ cs → followed z t 0 name ≡ []
  unfolding followed
  followed_last name c cs h = ap (λ cs. unaliased cs (asked_records z name t)) h

  -- that many aliases were given of those that a name begins, and these are the next
  pub record OnTrail (start : List (List ℕ)) (given : ℕ) (aliases next : List ℕ) : Type 0 where
    pub name : List (List ℕ)
    pub are : AreAliases z name next
    pub rest : at_places z.records aliases ++ followed z t (8 - given) name ≡ followed z t 8 start

  pub trail_first : (start : List (List ℕ)) (next : List ℕ) → AreAliases z start next → OnTrail start 0 [] next
  trail_first start next a = record { name = start; are = a; rest = refl }

  module _ (start : List (List ℕ)) (given : ℕ) (aliases next more : List ℕ) (place : ℕ) (e : next ≡ place ∷ more) (o : OnTrail start given aliases next) where
    -- what the next one leads to is what is left
    pub trail_next : given < 8 → at_places z.records (aliases ++ place ∷ []) ++ gone_on z (followed z t (8 - (given + 1))) (target_of (slice_get z.records place)) ≡ followed z t 8 start
    trail_next h =
        let f = first_place (is_asked o.name 5) z.records place more (sym o.are.places ∙ e) in
        let k = 8 - (given + 1) in
        let n : 8 - given ≡ suc k = omega arith in
        let a : at_places z.records (aliases ++ place ∷ []) ≡ at_places z.records aliases ++ f.record_ ∷ [] =
        filter_map-append (slice_get z.records) aliases (place ∷ []) ∙ ap (λ l. at_places z.records aliases ++ cons_option l []) f.at
        in
        let b : gone_on z (followed z t k) (target_of (slice_get z.records place)) ≡ gone_on z (followed z t k) (target f.record_.rdata) = ap (λ r. gone_on z (followed z t k) (target_of r)) f.at in
        let c : followed z t (8 - given) o.name ≡ f.record_ ∷ gone_on z (followed z t k) (target f.record_.rdata) = ap (λ i. followed z t i o.name) n ∙ followed_more o.name k f.record_ (at_places z.records more) f.those in
        ap (λ l. l ++ gone_on z (followed z t k) (target_of (slice_get z.records place))) a
        ∙ (append_assoc (at_places z.records aliases) (f.record_ ∷ []) (gone_on z (followed z t k) (target_of (slice_get z.records place)))
        ∙ (ap (λ l. at_places z.records aliases ++ f.record_ ∷ l) b ∙ (ap (λ l. at_places z.records aliases ++ l) (sym c) ∙ o.rest)))

    pub trail_alias : given < 8 → (name : List (List ℕ)) (after : List ℕ) → AreAliases z name after → ((k : ℕ) → gone_on z (followed z t k) (target_of (slice_get z.records place)) ≡ followed z t k name) → OnTrail start (given + 1) (aliases ++ place ∷ []) after
    trail_alias h name after a l = record {
      name = name;
      are = a;
      rest = ap (λ rs. at_places z.records (aliases ++ place ∷ []) ++ rs) (sym (l (8 - (given + 1)))) ∙ trail_next h;
    }

    pub trail_found : given < 8 → (is : List ℕ) → ((k : ℕ) → gone_on z (followed z t k) (target_of (slice_get z.records place)) ≡ at_places z.records is) → at_places z.records ((aliases ++ place ∷ []) ++ is) ≡ followed z t 8 start
    trail_found h is l =
        filter_map-append (slice_get z.records) (aliases ++ place ∷ []) is ∙ (ap (λ rs. at_places z.records (aliases ++ place ∷ []) ++ rs) (sym (l (8 - (given + 1)))) ∙ trail_next h)

    pub trail_nowhere : given < 8 → ((k : ℕ) → gone_on z (followed z t k) (target_of (slice_get z.records place)) ≡ []) → at_places z.records (aliases ++ place ∷ []) ≡ followed z t 8 start
    trail_nowhere h l = ap (at_places z.records) (sym (append-nil (aliases ++ place ∷ []))) ∙ trail_found h [] l

  -- no more than eight
  pub trail_last : (start : List (List ℕ)) (aliases next more : List ℕ) (place : ℕ) → next ≡ place ∷ more → OnTrail start 8 aliases next → at_places z.records aliases ≡ followed z t 8 start
  trail_last start aliases next more place e o =
      let f = first_place (is_asked o.name 5) z.records place more (sym o.are.places ∙ e) in
      sym (append-nil (at_places z.records aliases)) ∙ (ap (λ rs. at_places z.records aliases ++ rs) (sym (followed_last o.name f.record_ (at_places z.records more) f.those)) ∙ o.rest)

-- the first place of a list
pub first_of_places : (is : List ℕ) (p : ℕ) → Some p ≡ slice_get is 0 → (more : List ℕ) × (is ≡ p ∷ more)
first_of_places [] p h = absurd (cc)
first_of_places (x ∷ is) p h =
    let e : x ≡ p = cc in
    (is, ap (λ y. y ∷ is) e)

pub some_first : (is : List ℕ) → 0 < length is → (p : ℕ) × (Some p ≡ slice_get is 0)
some_first [] h = absurd (omega arith)
some_first (x ∷ is) h = (x, refl)

pub no_first : (is : List ℕ) → None ≡ slice_get is 0 → 0 < length is → ⊥
no_first [] e h = omega arith
no_first (x ∷ is) e h = absurd (cc)
