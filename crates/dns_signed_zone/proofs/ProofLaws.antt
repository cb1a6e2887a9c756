-- The NSECs that are chosen are accepted.
use Rattle.std.proofs.Common.{◌≡◌, ℕ, zero, suc, ◌+◌, ◌<◌, true, false, List, [], ◌∷◌, ◌++◌, length, drop, get_or, Option, Some, None, refl, ap, sym, subst, ◌∙◌, arith, inl, inr}
use Rattle.std.specs.Prelude.{◌⊎◌}
use Rattle.std.specs.List.{Contains, slice_get}
use Rattle.std.proofs.lemmas.Bool.{true≢false, cases_Bool}
use Rattle.std.proofs.lemmas.List.Elements.{filter_map-append}
use Rattle.dns_message.specs.declared.record.Record.{Record}
use Rattle.dns_route.specs.Routes.{ends_name}
use Rattle.dns_zone.specs.Cuts.{is_cut_off}
use Rattle.dns_zone.specs.Places.{at_places}
use Rattle.dns_zone.specs.ZoneReply.{exists}
use Rattle.dns_zone_tree.specs.Kinds.{places_of}
use Rattle.dns_zone_tree.specs.Regions.{Within, BelowCut, BelowDname, asked_region}
use Rattle.dns_zone_tree.specs.declared.kinds.TypedPlace.{TypedPlace}
use Rattle.dns_zone_tree.proofs.KindLaws.{places_ahead}
use Rattle.dns_denial.specs.Accepted.{is_accepted_by, servers_owner, sought, sought_by}
use Rattle.dns_denial.specs.Chains.{IsWhole}
use Rattle.dns_denial.specs.Denials.{IsLast}
use Rattle.dns_denial.specs.Nsecs.{NsecState}
use Rattle.dns_denial.specs.Validation.{shown_wildcard}
use Rattle.dns_denial.proofs.AcceptedLaws.{each_absence, there}
use Rattle.dns_denial.proofs.DenialLaws.{some_last}
use Rattle.dns_denial.proofs.ListLaws.{present}
use Rattle.dns_denial.proofs.NameLaws.{ends_itself}
use Rattle.dns_denial.proofs.RegionLaws.{asked_cut, reached}
use Rattle.dns_denial.proofs.StartLaws.{starts, within_all}
use Rattle.dns_signed_zone.specs.SignedZones.{IsAlone, ArePair, Proves, SignedState, head_of, proved_by}

-- ---- the first record at places

module _ (rs : List Record) (t : ℕ) (ks : List TypedPlace) (i : ℕ) (d : TypedPlace) (h : i < length ks) where
  -- the records from a place on
  records_ahead : at_places rs (places_of t (drop i ks)) ≡ at_places rs (places_of t (get_or ks i d ∷ [])) ++ at_places rs (places_of t (drop (i + 1) ks))
  records_ahead = ap (at_places rs) (places_ahead t ks i d h) ∙ filter_map-append (slice_get rs) (places_of t (get_or ks i d ∷ [])) (places_of t (drop (i + 1) ks))

  pub head_found : (r : Record) → at_places rs (places_of t (get_or ks i d ∷ [])) ≡ r ∷ [] → Some r ≡ head_of (at_places rs (places_of t (drop i ks)))
  head_found r e = sym (ap head_of (records_ahead ∙ ap (λ (l : List Record). l ++ at_places rs (places_of t (drop (i + 1) ks))) e))

  pub head_passed : at_places rs (places_of t (get_or ks i d ∷ [])) ≡ [] → head_of (at_places rs (places_of t (drop (i + 1) ks))) ≡ head_of (at_places rs (places_of t (drop i ks)))
  head_passed e = sym (ap head_of (records_ahead ∙ ap (λ (l : List Record). l ++ at_places rs (places_of t (drop (i + 1) ks))) e))

pub head_owner : (rs : List Record) (r : Record) → Some r ≡ head_of rs → r.owner ≡ servers_owner rs
head_owner [] r e = absurd (cc)
head_owner (x ∷ rs) r e = let k : r ≡ x = cc in ap (λ (y : Record). y.owner) k

pub head_none : (rs : List Record) → None ≡ head_of rs → rs ≡ []
head_none [] e = refl
head_none (x ∷ rs) e = absurd (cc)

-- ---- NSECs that are accepted, and the zone's

module _ (s : SignedState) (w : IsWhole s.zone s.nsecs) (t : ℕ) (name : List (List ℕ)) (inside : ends_name name s.zone.apex ≡ true) where
  alone : (n m : NsecState) → Contains s.nsecs n → Contains (n ∷ []) m → Contains s.nsecs m
  alone n m c (zero, l, e) = subst (λ (x : NsecState). Contains s.nsecs x) e c
  alone n m c (suc k, l, e) = absurd (omega arith)

  both : (n m q : NsecState) → Contains s.nsecs n → Contains s.nsecs m → Contains (n ∷ m ∷ []) q → Contains s.nsecs q
  both n m q c d (zero, l, e) = subst (λ (x : NsecState). Contains s.nsecs x) e c
  both n m q c d (suc zero, l, e) = subst (λ (x : NsecState). Contains s.nsecs x) e d
  both n m q c d (suc (suc k), l, e) = absurd (omega arith)

  nothing : (q : NsecState) → Contains [] q → Contains s.nsecs q
  nothing q c = absurd (omega (arith, c.1))

  -- one NSEC, for a name that exists
  one_proves : (target : List (List ℕ)) → sought s.zone t name ≡ target → ends_name target s.zone.apex ≡ true → exists s.zone target ≡ true → (a b : Option NsecState) → IsAlone s.nsecs target a b → Proves s t name (proved_by a b)
  one_proves target e i x None b h = absurd (some_last s.zone s.nsecs target w i h)
  one_proves target e i x (Some n) None h = record {
    accepted = λ d. each_absence s.zone s.nsecs (n ∷ []) t name n w inside d (subst (λ (y : List (List ℕ)). IsLast s.nsecs y n) (sym e) h.0) (zero, omega arith, refl)
        (λ f. absurd (true≢false (sym x ∙ (sym (ap (exists s.zone) e) ∙ f))));
    of_zone = λ q c. alone n q h.0.one c;
  }
  one_proves target e i x (Some n) (Some m) h = absurd (some_none m h.1)
    where
      some_none : (m : NsecState) → Some m ≡ None → ⊥
      some_none m e = absurd (cc)

  -- two, for a name that doesn't
  two_prove : asked_region s.zone t name ≡ Within → exists s.zone name ≡ false → (a b : Option NsecState) → ArePair s.nsecs name a b → Proves s t name (proved_by a b)
  two_prove e x None b h =
      let r = reached s.zone (starts s.zone w.zone) t name e in
      absurd (h s.zone w inside (record { cut = by_cut (cases_Bool (is_cut_off s.zone name)); dname = r.dname }) x)
    where
      by_cut : (is_cut_off s.zone name ≡ true) ⊎ (is_cut_off s.zone name ≡ false) → is_cut_off s.zone name ≡ false
      by_cut (inl k) = absurd (true≢false (sym (there s.zone (starts s.zone w.zone) t name k (reached s.zone (starts s.zone w.zone) t name e)) ∙ x))
      by_cut (inr k) = k
  two_prove e x (Some n) None h = absurd h
  two_prove e x (Some n) (Some m) h =
      let k : sought s.zone t name ≡ name = ap (sought_by name) e in
      record {
        accepted = λ d. each_absence s.zone s.nsecs (n ∷ m ∷ []) t name n w inside d (subst (λ (y : List (List ℕ)). IsLast s.nsecs y n) (sym k) h.0) (zero, omega arith, refl)
            (λ f. (m, subst (λ (y : List (List ℕ)). IsLast s.nsecs (shown_wildcard n y) m) (sym k) h.1, (suc zero, omega arith, refl)));
        of_zone = λ q c. both n m q h.0.one h.1.one c;
      }

  -- ---- by what a walk ends at

  pub node_proves : asked_region s.zone t name ≡ Within → exists s.zone name ≡ true → (a b : Option NsecState) → IsAlone s.nsecs name a b → Proves s t name (proved_by a b)
  node_proves e x a b h = one_proves name (ap (sought_by name) e) inside x a b h

  pub missing_proves : asked_region s.zone t name ≡ Within → exists s.zone name ≡ false → (a b : Option NsecState) → ArePair s.nsecs name a b → Proves s t name (proved_by a b)
  missing_proves e x a b h = two_prove e x a b h

  pub cut_proves : (rs : List Record) → asked_region s.zone t name ≡ BelowCut rs → (owner : List (List ℕ)) → owner ≡ servers_owner rs → (a b : Option NsecState) → IsAlone s.nsecs owner a b → Proves s t name (proved_by a b)
  cut_proves rs e owner o a b h =
      let c = asked_cut s.zone (starts s.zone w.zone) t name rs e in
      let k : sought s.zone t name ≡ owner = ap (sought_by name) e ∙ sym o in
      let q : owner ≡ c.one.owner = o ∙ c.owner in
      let i : ends_name owner s.zone.apex ≡ true = subst (λ (y : List (List ℕ)). ends_name y s.zone.apex ≡ true) (sym q) (within_all s.zone.apex s.zone.records (starts s.zone w.zone).within c.one c.there) in
      let x : exists s.zone owner ≡ true = subst (λ (y : List (List ℕ)). exists s.zone y ≡ true) (sym q) (present (λ (r : Record). ends_name r.owner c.one.owner) s.zone.records c.one c.there (ends_itself c.one.owner)) in
      one_proves owner k i x a b h

  pub never_none : (rs : List Record) → asked_region s.zone t name ≡ BelowCut rs → rs ≡ [] → ⊥
  never_none rs e k = (asked_cut s.zone (starts s.zone w.zone) t name rs e).some k

  pub dname_proves : (rs : List Record) → asked_region s.zone t name ≡ BelowDname rs → Proves s t name []
  dname_proves rs e = record {
    accepted = λ d. ap (is_accepted_by s.zone [] t name) e;
    of_zone = nothing;
  }
