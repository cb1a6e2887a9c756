-- Each absence that a reply says is proved.
use Rattle.std.proofs.Common.{◌≡◌, ℕ, Bool, true, false, List, [], ◌∷◌, map, nat_eq, refl, ap, sym, subst, ◌∙◌, arith, inl, inr}
use Rattle.std.specs.Prelude.{◌&&◌, ◌||◌, ◌⊎◌, not, if◌then◌else◌}
use Rattle.std.specs.List.{Contains, list_any}
use Rattle.std.proofs.lemmas.Bool.{true≢false, and_from, and_parts, cases_Bool, false_from_ne_true, not_from_false, or_left, or_parts, or_right}
use Rattle.std.proofs.lemmas.Bool.Decides.{nat_tests}
use Rattle.dns_name.specs.Canonical.{same_name}
use Rattle.dns_message.specs.declared.record.Record.{Record}
use Rattle.dns_route.specs.Routes.{ends_name}
use Rattle.dns_zone.specs.Cuts.{delegates, is_cut_off}
use Rattle.dns_zone.specs.Owned.{ZoneState, asked_records, is_asked, is_of, is_owned}
use Rattle.dns_zone.specs.ZoneReply.{exists, follows}
use Rattle.dns_zone_tree.specs.Regions.{Region, Within, BelowCut, BelowDname, asked_region}
use Rattle.dns_zone_tree.specs.Wildcards.{are_some, given_as, had_records, wildcard}
use Rattle.dns_denial.specs.Nsecs.{NsecState, lists}
use Rattle.dns_denial.specs.Validation.{denies_name, denies_type, is_delegation, matches, proves_expansion, proves_insecure, proves_name_error, proves_no_data, proves_wildcard_no_data, shown_wildcard}
use Rattle.dns_denial.specs.Chains.{IsWhole, is_below_cut, is_record_at}
use Rattle.dns_denial.specs.Denials.{CanBeDenied, HasNone, IsAnswered, IsLast, IsUnsigned}
use Rattle.dns_denial.specs.Accepted.{EachAbsenceIsProved, HasWildcards, is_accepted_by, is_accepted_within, is_given, servers_owner, sought_by}
use Rattle.dns_denial.proofs.ChainLaws.{cut_of}
use Rattle.dns_denial.proofs.DenialLaws.{denied, denied_type, insecure, last_wildcard, no_ds, wildcard_shown}
use Rattle.dns_denial.proofs.ListLaws.{found, present, some_any, some_mapped}
use Rattle.dns_denial.proofs.NameLaws.{same_back, same_ends, same_itself, same_trans}
use Rattle.dns_denial.proofs.RegionLaws.{AtCut, Reached, asked_cut, reached}
use Rattle.dns_denial.proofs.StartLaws.{HasStart, starts}
use Rattle.dns_denial.proofs.TypeLaws.{not_at}
use Rattle.dns_denial.proofs.WildLaws.{not_apex, wildcard_cut, wildcard_dname}

-- the records that a name has are its own, or its wildcard's
pub had_some : (z : ZoneState) (name : List (List ℕ)) (t : ℕ) (b : Bool) → exists z name ≡ b → are_some (had_records z name t) ≡ list_any (is_asked (if b then name else wildcard z name) t) z.records
had_some z name t true e = ap (λ (b : Bool). are_some (if b then asked_records z name t else map (given_as name) (asked_records z (wildcard z name) t))) e ∙ some_any (is_asked name t) z.records
had_some z name t false e =
    ap (λ (b : Bool). are_some (if b then asked_records z name t else map (given_as name) (asked_records z (wildcard z name) t))) e
    ∙ (some_mapped (given_as name) (asked_records z (wildcard z name) t) ∙ some_any (is_asked (wildcard z name) t) z.records)

-- what a name has none of
pub none_of : (z : ZoneState) (t : ℕ) (name : List (List ℕ)) (b : Bool) → exists z name ≡ b → is_given z t name ≡ false → HasNone z (if b then name else wildcard z name) t
none_of z t name b e f =
    let p = or_parts (are_some (had_records z name t)) (follows t && are_some (had_records z name 5)) f in
    record {
      none = sym (had_some z name t b e) ∙ p.0;
      alias = ap (λ (c : Bool). follows t && c) (sym (had_some z name 5 b e)) ∙ p.1;
    }

-- ---- a delegation point, whose DS is asked for

module _ (z : ZoneState) (start : HasStart z) (t : ℕ) (name : List (List ℕ)) (h : is_cut_off z name ≡ true) (r : Reached z start t name) where
  pub ds : nat_eq t 43 ≡ true
  ds = by_type (cases_Bool (nat_eq t 43))
    where
      by_type : (nat_eq t 43 ≡ true) ⊎ (nat_eq t 43 ≡ false) → nat_eq t 43 ≡ true
      by_type (inl e) = e
      by_type (inr e) = absurd (true≢false (sym h ∙ r.cut e))

  pub is_ds : t ≡ 43
  is_ds = let e = ds in grind (arith, nat_tests)

  pub record Own : Type 0 where
    pub one : Record
    pub there : Contains z.records one
    pub servers : is_of 2 one ≡ true
    pub same : same_name one.owner name ≡ true
    pub inner : same_name one.owner z.apex ≡ false

  pub own : Own
  own =
      let f = found (delegates z name) z.records h in
      let c = cut_of z name f.one f.passes in
      let s : same_name f.one.owner name ≡ true = by_name f.one f.there f.passes (cases_Bool (same_name f.one.owner name)) in
      record { one = f.one; there = f.there; servers = c.servers; same = s; inner = c.inner }
    where
      by_name : (q : Record) → Contains z.records q → delegates z name q ≡ true → (same_name q.owner name ≡ true) ⊎ (same_name q.owner name ≡ false) → same_name q.owner name ≡ true
      by_name q c p (inl e) = e
      by_name q c p (inr e) = absurd (true≢false (sym (present (λ (s : Record). delegates z name s && not (same_name s.owner name)) z.records q c (and_from (delegates z name q) (not (same_name q.owner name)) p (not_from_false (same_name q.owner name) e))) ∙ r.first))

  pub there : exists z name ≡ true
  there = let o = own in present (λ (q : Record). ends_name q.owner name) z.records o.one o.there (same_ends o.one.owner name o.same)

  pub unsigned_at : HasNone z name 43 → IsUnsigned z name
  unsigned_at v =
      let o = own in
      record {
        servers = present (is_record_at name 2) z.records o.one o.there (and_from (is_owned name o.one) (is_of 2 o.one) o.same o.servers);
        inner = false_from_ne_true (same_name name z.apex) (λ k. true≢false (sym (same_trans o.one.owner name z.apex o.same k) ∙ o.inner));
        first = r.first;
        unsigned = not_at z name 43 v.none;
      }

-- the owner of a referral's NS records, which has no DS
pub unsigned_cut : (z : ZoneState) (start : HasStart z) (name : List (List ℕ)) (rs : List Record) → AtCut z start name rs → are_some (asked_records z (servers_owner rs) 43) ≡ false → IsUnsigned z (servers_owner rs)
unsigned_cut z start name rs a e =
    let none : list_any (is_record_at (servers_owner rs) 43) z.records ≡ false = not_at z (servers_owner rs) 43 (sym (some_any (is_asked (servers_owner rs) 43) z.records) ∙ e) in
    let made : IsUnsigned z a.one.owner = record {
      servers = present (is_record_at a.one.owner 2) z.records a.one a.there (and_from (is_owned a.one.owner a.one) (is_of 2 a.one) (same_itself a.one.owner) a.servers);
      inner = a.inner;
      first = a.first;
      unsigned = ap (λ (o : List (List ℕ)). list_any (is_record_at o 43) z.records) (sym a.owner) ∙ none;
    } in
    subst (IsUnsigned z) (sym a.owner) made

module _ (z : ZoneState) (ns chosen : List NsecState) (t : ℕ) (name : List (List ℕ)) (n : NsecState) (w : IsWhole z ns) (inside : ends_name name z.apex ≡ true) (d : CanBeDenied z name t) (x : Contains chosen n) where
  start : HasStart z
  start = starts z w.zone

  -- ---- a referral

  referred : (rs : List Record) → AtCut z start name rs → IsLast ns (servers_owner rs) n → (are_some (asked_records z (servers_owner rs) 43) || proves_insecure chosen (servers_owner rs)) ≡ true
  referred rs a l = by_ds (cases_Bool (are_some (asked_records z (servers_owner rs) 43)))
    where
      by_ds : (are_some (asked_records z (servers_owner rs) 43) ≡ true) ⊎ (are_some (asked_records z (servers_owner rs) 43) ≡ false) → (are_some (asked_records z (servers_owner rs) 43) || proves_insecure chosen (servers_owner rs)) ≡ true
      by_ds (inl e) = or_left (are_some (asked_records z (servers_owner rs) 43)) (proves_insecure chosen (servers_owner rs)) e
      by_ds (inr e) =
          or_right (are_some (asked_records z (servers_owner rs) 43)) (proves_insecure chosen (servers_owner rs))
          (present (λ (k : NsecState). matches (servers_owner rs) k && (is_delegation k && not (lists k 43))) chosen n x (insecure z ns w (servers_owner rs) n (unsigned_cut z start name rs a e) l))

  -- ---- a name that is reached

  module _ (h : is_cut_off z name ≡ false) (r : Reached z start t name) (l : IsLast ns name n) (k : exists z name ≡ false → HasWildcards ns chosen n name) where
    answered : IsAnswered z name
    answered = record { cut = h; dname = r.dname }

    expanded : (exists z name || proves_expansion z.apex chosen name (wildcard z name)) ≡ true
    expanded = by_name (cases_Bool (exists z name))
      where
        by_name : (exists z name ≡ true) ⊎ (exists z name ≡ false) → (exists z name || proves_expansion z.apex chosen name (wildcard z name)) ≡ true
        by_name (inl e) = or_left (exists z name) (proves_expansion z.apex chosen name (wildcard z name)) e
        by_name (inr e) =
            or_right (exists z name) (proves_expansion z.apex chosen name (wildcard z name))
            (present (λ (q : NsecState). denies_name z.apex name q && same_name (shown_wildcard q name) (wildcard z name)) chosen n x
            (and_from (denies_name z.apex name n) (same_name (shown_wildcard n name) (wildcard z name)) (denied z ns w name n l answered e)
            (ap (λ (v : List (List ℕ)). same_name v (wildcard z name)) (wildcard_shown z ns w name n l h e) ∙ same_itself (wildcard z name))))

    module _ (e : exists z name ≡ false) where
      wild_answered : IsAnswered z (wildcard z name)
      wild_answered = record { cut = wildcard_cut z start name h; dname = wildcard_dname z start name r.dname e }

      abbrev m : NsecState
      m = (k e).0

      last : IsLast ns (wildcard z name) m
      last = last_wildcard z ns w name n m l h e (k e).1

      y : Contains chosen m
      y = (k e).2

      no_name : exists z (wildcard z name) ≡ false → proves_name_error z.apex chosen name ≡ true
      no_name g =
          let b : denies_name z.apex (shown_wildcard n name) m ≡ true = ap (λ (v : List (List ℕ)). denies_name z.apex v m) (wildcard_shown z ns w name n l h e) ∙ denied z ns w (wildcard z name) m last wild_answered g in
          present (λ (q : NsecState). denies_name z.apex name q && list_any (denies_name z.apex (shown_wildcard q name)) chosen) chosen n x
          (and_from (denies_name z.apex name n) (list_any (denies_name z.apex (shown_wildcard n name)) chosen) (denied z ns w name n l answered e) (present (denies_name z.apex (shown_wildcard n name)) chosen m y b))

      no_type : exists z (wildcard z name) ≡ true → HasNone z (wildcard z name) t → proves_wildcard_no_data z.apex chosen name t ≡ true
      no_type g o =
          let c : CanBeDenied z (wildcard z name) t = record { deniable = d.deniable; parent = never (nat_eq t 43) (same_name (wildcard z name) z.apex) (not_apex z start name inside) } in
          let b : denies_type z.apex (shown_wildcard n name) t m ≡ true = ap (λ (v : List (List ℕ)). denies_type z.apex v t m) (wildcard_shown z ns w name n l h e) ∙ denied_type z ns w (wildcard z name) t m last wild_answered g o c in
          present (λ (q : NsecState). denies_name z.apex name q && list_any (denies_type z.apex (shown_wildcard q name) t) chosen) chosen n x
          (and_from (denies_name z.apex name n) (list_any (denies_type z.apex (shown_wildcard n name) t) chosen) (denied z ns w name n l answered e) (present (denies_type z.apex (shown_wildcard n name) t) chosen m y b))
        where
          never : (p q : Bool) → q ≡ false → (p && q) ≡ false
          never true q e = e
          never false q e = refl

    absent : is_given z t name ≡ false → (b : Bool) → exists z name ≡ b → (c : Bool) → exists z (wildcard z name) ≡ c →
        (if b then proves_no_data z.apex chosen name t else (if c then proves_wildcard_no_data z.apex chosen name t else proves_name_error z.apex chosen name)) ≡ true
    absent f true e c g = present (denies_type z.apex name t) chosen n x (denied_type z ns w name t n l answered e (none_of z t name true e f) d)
    absent f false e true g = no_type e g (none_of z t name false e f)
    absent f false e false g = no_name e g

    by_given : (b : Bool) → is_given z t name ≡ b → (if b then (exists z name || proves_expansion z.apex chosen name (wildcard z name)) else (if exists z name then proves_no_data z.apex chosen name t else (if exists z (wildcard z name) then proves_wildcard_no_data z.apex chosen name t else proves_name_error z.apex chosen name))) ≡ true
    by_given true f = expanded
    by_given false f = absent f (exists z name) refl (exists z (wildcard z name)) refl

  -- ---- a delegation point, whose DS is asked for

  module _ (h : is_cut_off z name ≡ true) (r : Reached z start t name) (l : IsLast ns name n) where
    by_given_ds : (b : Bool) → is_given z t name ≡ b → (c : Bool) → exists z name ≡ c → (if b then (c || proves_expansion z.apex chosen name (wildcard z name)) else (if c then proves_no_data z.apex chosen name t else (if exists z (wildcard z name) then proves_wildcard_no_data z.apex chosen name t else proves_name_error z.apex chosen name))) ≡ true
    by_given_ds b f false e = absurd (true≢false (sym (there z start t name h r) ∙ e))
    by_given_ds true f true e = refl
    by_given_ds false f true e =
        let v : HasNone z name 43 = subst (HasNone z name) (is_ds z start t name h r) (none_of z t name true e f) in
        present (denies_type z.apex name t) chosen n x (subst (λ (u : ℕ). denies_type z.apex name u n ≡ true) (sym (is_ds z start t name h r)) (no_ds z ns w name n (unsigned_at z start t name h r v) (not_at z name 5 v.alias) l))

  -- ---- all cases

  by_cut : Reached z start t name → (is_cut_off z name ≡ true) ⊎ (is_cut_off z name ≡ false) → IsLast ns name n → (exists z name ≡ false → HasWildcards ns chosen n name) → is_accepted_within z chosen t name ≡ true
  by_cut r (inl h) l k = by_given_ds h r l (is_given z t name) refl (exists z name) refl
  by_cut r (inr h) l k = by_given h r l k (is_given z t name) refl

  by_region : (r : Region) → asked_region z t name ≡ r → IsLast ns (sought_by name r) n → (exists z (sought_by name r) ≡ false → HasWildcards ns chosen n (sought_by name r)) → is_accepted_by z chosen t name r ≡ true
  by_region Within e l k = by_cut (reached z start t name e) (cases_Bool (is_cut_off z name)) l k
  by_region (BelowCut rs) e l k = referred rs (asked_cut z start t name rs e) l
  by_region (BelowDname rs) e l k = refl

pub each_absence : EachAbsenceIsProved
each_absence z ns chosen t name n w i d l x k = by_region z ns chosen t name n w i d x (asked_region z t name) refl l k
