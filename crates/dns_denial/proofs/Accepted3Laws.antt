-- Each absence that a reply says is proved by NSEC3s.
use Rattle.std.proofs.Common.{◌≡◌, ℕ, zero, suc, ◌+◌, ◌≤◌, ◌<◌, Bool, true, false, List, [], ◌∷◌, length, nat_eq, refl, ap, sym, subst, ◌∙◌, arith, inl, inr}
use Rattle.std.specs.Prelude.{◌&&◌, ◌||◌, ◌⊎◌, not, if◌then◌else◌}
use Rattle.std.specs.List.{Contains, list_any}
use Rattle.std.proofs.lemmas.Bool.{true≢false, and_from, and_left, and_parts, cases_Bool, false_from_ne_true, not_from_false, or_from, or_left, or_parts, or_right}
use Rattle.std.proofs.lemmas.Bool.Decides.{nat_tests}
use Rattle.dns_name.specs.Canonical.{same_name}
use Rattle.dns_message.specs.declared.record.Record.{Record}
use Rattle.dns_route.specs.Routes.{ends_name}
use Rattle.dns_zone.specs.Cuts.{delegates, is_cut_off}
use Rattle.dns_zone.specs.Owned.{ZoneState, asked_records, is_asked, is_of, is_owned}
use Rattle.dns_zone.specs.ZoneReply.{exists, follows}
use Rattle.dns_zone_tree.specs.Regions.{Region, Within, BelowCut, BelowDname, asked_region}
use Rattle.dns_zone_tree.specs.Wildcards.{are_some, encloser, had_records, star, wildcard}
use Rattle.dns_denial.specs.Accepted.{is_given, servers_owner, sought_by}
use Rattle.dns_denial.specs.Accepted3.{AreChosen, EachAbsenceIsProved3, HasOwnHashes, IsProvable, hashed_names, is_accepted_by3, is_accepted_within3, longer}
use Rattle.dns_denial.specs.Chains.{IsDeniable, has_type, is_below_cut, is_record_at, is_deniable}
use Rattle.dns_denial.specs.Denials.{CanBeDenied, HasNone, IsAnswered, IsUnsigned, is_under_dname}
use Rattle.dns_denial.specs.Nsec3.{AreApart, Hashing, IsApart, IsNear, IsWhole3, Nsec3State, at_encloser, closer, covers3, has, is_delegation3, is_matched, lacks3, matches3, next_closer, opts_out, proves_expansion3, proves_insecure3, proves_name_error3, proves_no_data3, proves_wildcard_no_data3, provable}
use Rattle.dns_denial.proofs.AcceptedLaws.{had_some, is_ds, none_of, there, unsigned_at, unsigned_cut}
use Rattle.dns_denial.proofs.ChainLaws.{answered_above}
use Rattle.dns_denial.proofs.HashLaws.{Picked, at_missing, cut_exists, delegation_listed, inside, lacking, opted_out, other, own, unmatched, wild_inside}
use Rattle.dns_denial.proofs.ProvableLaws.{any_matched, closer_here, closer_up, provable_above, provable_cons, provable_here, shape, up_step}
use Rattle.dns_denial.proofs.ListLaws.{found, present, some_any}
use Rattle.dns_denial.proofs.NameLaws.{ends_itself, ends_short, ends_trans, same_back, same_ends, same_itself, same_trans}
use Rattle.dns_denial.proofs.RegionLaws.{AtCut, Reached, asked_cut, reached}
use Rattle.dns_denial.proofs.StartLaws.{HasStart, starts, wild_uncut, within_all}
use Rattle.dns_denial.proofs.TypeLaws.{no_soa, not_at}
use Rattle.dns_denial.proofs.WildLaws.{not_apex}

-- the next closer name is one label longer than the closest provable encloser
module _ (h : Hashing) (ns : List Nsec3State) where
  unlike : (i j : ℕ) → j < i → nat_eq i j ≡ false
  unlike i j l = grind (arith, nat_tests)

  alike : (i : ℕ) → nat_eq i i ≡ true
  alike i = grind (arith, nat_tests)

  pub next_is : (ls : List (List ℕ)) → any_matched h ns ls ≡ true → is_matched h ns ls ≡ false → closer h ns ls ≡ longer (provable h ns ls) ls
  next_is [] r e = absurd (true≢false (sym r ∙ e))
  next_is (l ∷ ls) r e = by_test (next_is ls) (cases_Bool (is_matched h ns ls))
    where
      by_test : (any_matched h ns ls ≡ true → is_matched h ns ls ≡ false → closer h ns ls ≡ longer (provable h ns ls) ls) → (is_matched h ns ls ≡ true) ⊎ (is_matched h ns ls ≡ false) → closer h ns (l ∷ ls) ≡ longer (provable h ns (l ∷ ls)) (l ∷ ls)
      by_test ih (inl k) =
          let p : provable h ns (l ∷ ls) ≡ ls = provable_cons h ns l ls e ∙ provable_here h ns ls k in
          closer_here h ns l ls k
          ∙ (sym (ap (λ (b : Bool). if b then l ∷ ls else longer ls ls) (alike (length ls))) ∙ ap (λ (x : List (List ℕ)). longer x (l ∷ ls)) (sym p))
      by_test ih (inr k) =
          let a : any_matched h ns ls ≡ true = up_step h ns (is_matched h ns (l ∷ ls)) (any_matched h ns ls) r e in
          let s = shape h ns ls a k in
          let n : length (provable h ns ls) < length ls = omega (arith, ap length s.is, ends_short ls (closer h ns ls) s.above) in
          closer_up h ns l ls k
          ∙ (ih a k
          ∙ (sym (ap (λ (b : Bool). if b then l ∷ ls else longer (provable h ns ls) ls) (unlike (length ls) (length (provable h ns ls)) n)) ∙ ap (λ (x : List (List ℕ)). longer x (l ∷ ls)) (sym (provable_cons h ns l ls e))))

-- ---- what is chosen

module _ (z : ZoneState) (h : Hashing) (ns chosen : List Nsec3State) (w : IsWhole3 z h ns) (name : List (List ℕ)) (c : AreChosen h ns chosen name) where
  -- for a name that has an NSEC3
  chosen_own : is_matched h ns name ≡ true → (n : Nsec3State) × Contains chosen n × IsNear h ns name n
  chosen_own e = c.each name (subst (λ (xs : List (List (List ℕ))). Contains xs name) (sym (ap (λ (b : Bool). if b then name ∷ [] else provable h ns name ∷ closer h ns name ∷ (star ∷ provable h ns name) ∷ []) e)) (zero, omega arith, refl))

  module _ (e : is_matched h ns name ≡ false) where
    three : hashed_names h ns name ≡ provable h ns name ∷ closer h ns name ∷ (star ∷ provable h ns name) ∷ []
    three = ap (λ (b : Bool). if b then name ∷ [] else provable h ns name ∷ closer h ns name ∷ (star ∷ provable h ns name) ∷ []) e

    at_name : (s : List (List ℕ)) → Contains (provable h ns name ∷ closer h ns name ∷ (star ∷ provable h ns name) ∷ []) s → (n : Nsec3State) × Contains chosen n × IsNear h ns s n
    at_name s k = c.each s (subst (λ (xs : List (List (List ℕ))). Contains xs s) (sym three) k)

    -- and for one that has none
    picked : Picked z h ns w name chosen
    picked =
        let a = at_name (provable h ns name) (zero, omega arith, refl) in
        let b = at_name (closer h ns name) (suc zero, omega arith, refl) in
        record { of_chain = c.of_chain; encloser = a.0; encloser_in = a.1; encloser_near = a.2; next = b.0; next_in = b.1; next_near = b.2 }

    picked_wild : (n : Nsec3State) × Contains chosen n × IsNear h ns (star ∷ provable h ns name) n
    picked_wild = at_name (star ∷ provable h ns name) (suc (suc zero), omega arith, refl)

-- ---- the cases of a reply

-- a wildcard's records that are given are there
given_wild : (z : ZoneState) (t : ℕ) (name : List (List ℕ)) → exists z name ≡ false → is_given z t name ≡ true → exists z (wildcard z name) ≡ true
given_wild z t name e g = by_either (cases_Bool (are_some (had_records z name t)))
  where
    owned : (u : ℕ) → are_some (had_records z name u) ≡ true → exists z (wildcard z name) ≡ true
    owned u k =
        let f = found (is_asked (wildcard z name) u) z.records (sym (had_some z name u false e) ∙ k) in
        present (λ (r : Record). ends_name r.owner (wildcard z name)) z.records f.one f.there (same_ends f.one.owner (wildcard z name) (and_parts (is_owned (wildcard z name) f.one) (nat_eq u 255 || is_of u f.one) f.passes).0)

    second : (a b : Bool) → (a || b) ≡ true → a ≡ false → b ≡ true
    second true b k l = absurd (true≢false l)
    second false b k l = k

    by_either : (are_some (had_records z name t) ≡ true) ⊎ (are_some (had_records z name t) ≡ false) → exists z (wildcard z name) ≡ true
    by_either (inl k) = owned t k
    by_either (inr k) = owned 5 (and_parts (follows t) (are_some (had_records z name 5)) (second (are_some (had_records z name t)) (follows t && are_some (had_records z name 5)) g k)).1

module _ (z : ZoneState) (h : Hashing) (ns chosen : List Nsec3State) (t : ℕ) (name : List (List ℕ)) (w : IsWhole3 z h ns) (within : ends_name name z.apex ≡ true) (d : CanBeDenied z name t) (v : IsProvable z h ns t name) (o : HasOwnHashes z h ns name) where
  start : HasStart z
  start = starts z w.zone

  -- ---- a referral

  module _ (rs : List Record) (a : AtCut z start name rs) (c : AreChosen h ns chosen (servers_owner rs)) where
    abbrev cut : List (List ℕ)
    cut = servers_owner rs

    insecure : IsUnsigned z cut → proves_insecure3 h chosen cut ≡ true
    insecure u = by_match (cases_Bool (is_matched h ns cut))
      where
        by_match : (is_matched h ns cut ≡ true) ⊎ (is_matched h ns cut ≡ false) → proves_insecure3 h chosen cut ≡ true
        by_match (inl e) =
            let k = chosen_own z h ns chosen w cut c e in
            let m = own z h ns w cut k.0 e k.2 in
            or_left (list_any (λ (x : Nsec3State). matches3 h cut x && (is_delegation3 x && not (has x 43))) chosen) (at_encloser h chosen (λ (x : List (List ℕ)). true) (next_closer h chosen cut) && opts_out h chosen (next_closer h chosen cut))
            (present (λ (x : Nsec3State). matches3 h cut x && (is_delegation3 x && not (has x 43))) chosen k.0 k.1 (and_from (matches3 h cut k.0) (is_delegation3 k.0 && not (has k.0 43)) m (delegation_listed z h ns w cut k.0 u k.2.one m)))
        by_match (inr e) =
            let up : ends_name name cut ≡ true = ap (ends_name name) a.owner ∙ a.above in
            let n : is_under_dname z cut ≡ false = ap (is_under_dname z) a.owner ∙ a.dname in
            or_right (list_any (λ (x : Nsec3State). matches3 h cut x && (is_delegation3 x && not (has x 43))) chosen) (at_encloser h chosen (λ (x : List (List ℕ)). true) (next_closer h chosen cut) && opts_out h chosen (next_closer h chosen cut))
            (opted_out z h ns w cut chosen (picked z h ns chosen w cut c e) cut_within (cut_exists z h ns w cut u) u.first n e (λ s k. o.above s (ends_trans name cut s up k)))
          where
            cut_within : ends_name cut z.apex ≡ true
            cut_within =
                let f = found (is_record_at cut 2) z.records u.servers in
                let p = and_parts (is_owned cut f.one) (is_of 2 f.one) f.passes in
                ends_trans cut f.one.owner z.apex (same_ends cut f.one.owner (same_back f.one.owner cut p.0)) (within_all z.apex z.records start.within f.one f.there)

    referred : (are_some (asked_records z cut 43) || proves_insecure3 h chosen cut) ≡ true
    referred = by_ds (cases_Bool (are_some (asked_records z cut 43)))
      where
        by_ds : (are_some (asked_records z cut 43) ≡ true) ⊎ (are_some (asked_records z cut 43) ≡ false) → (are_some (asked_records z cut 43) || proves_insecure3 h chosen cut) ≡ true
        by_ds (inl e) = or_left (are_some (asked_records z cut 43)) (proves_insecure3 h chosen cut) e
        by_ds (inr e) = or_right (are_some (asked_records z cut 43)) (proves_insecure3 h chosen cut) (insecure (unsigned_cut z start name rs a e))

  -- ---- a name that is reached

  module _ (r : Reached z start t name) (c : AreChosen h ns chosen name) where
    -- one that exists, of which a span with Opt-Out may leave out the NSEC3
    left_out : exists z name ≡ true → is_matched h ns name ≡ false → proves_no_data3 h chosen name t ≡ true
    left_out e k =
        or_right (list_any (λ (n : Nsec3State). matches3 h name n && lacks3 t n) chosen) (nat_eq t 43 && (at_encloser h chosen (λ (x : List (List ℕ)). true) (next_closer h chosen name) && opts_out h chosen (next_closer h chosen name)))
        (and_from (nat_eq t 43) (at_encloser h chosen (λ (x : List (List ℕ)). true) (next_closer h chosen name) && opts_out h chosen (next_closer h chosen name)) (by_type (cases_Bool (nat_eq t 43)))
        (opted_out z h ns w name chosen (picked z h ns chosen w name c k) within e r.first r.dname k o.above))
      where
        by_type : (nat_eq t 43 ≡ true) ⊎ (nat_eq t 43 ≡ false) → nat_eq t 43 ≡ true
        by_type (inl q) = q
        by_type (inr q) = absurd (true≢false (sym (v.held e q) ∙ k))

    shown : (n : Nsec3State) → Contains chosen n → (matches3 h name n && lacks3 t n) ≡ true → proves_no_data3 h chosen name t ≡ true
    shown n k e =
        or_left (list_any (λ (q : Nsec3State). matches3 h name q && lacks3 t q) chosen) (nat_eq t 43 && (at_encloser h chosen (λ (x : List (List ℕ)). true) (next_closer h chosen name) && opts_out h chosen (next_closer h chosen name)))
        (present (λ (q : Nsec3State). matches3 h name q && lacks3 t q) chosen n k e)

    -- ---- at a delegation point, whose DS is asked for

    module _ (k : is_cut_off z name ≡ true) where
      ds_absent : is_given z t name ≡ false → proves_no_data3 h chosen name t ≡ true
      ds_absent f = by_match (cases_Bool (is_matched h ns name))
        where
          e : exists z name ≡ true
          e = there z start t name k r

          by_match : (is_matched h ns name ≡ true) ⊎ (is_matched h ns name ≡ false) → proves_no_data3 h chosen name t ≡ true
          by_match (inr q) = left_out e q
          by_match (inl q) =
              let a = chosen_own z h ns chosen w name c q in
              let m = own z h ns w name a.0 q a.2 in
              let b : HasNone z name 43 = subst (HasNone z name) (is_ds z start t name k r) (none_of z t name true e f) in
              let u : IsUnsigned z name = unsigned_at z start t name k r b in
              let listed : (s : ℕ) → IsDeniable s → list_any (is_record_at name s) z.records ≡ false → has a.0 s ≡ false = λ s p g.
              w.chain.types a.0 a.2.one name within e r.first m s p ∙ and_left (list_any (is_record_at name s) z.records) (not (is_cut_off z name) || (nat_eq s 2 || nat_eq s 43)) g in
              let six : has a.0 6 ≡ false = listed 6 (refl, refl) (no_soa z start name u.inner) in
              let five : has a.0 5 ≡ false = listed 5 (refl, refl) (not_at z name 5 b.alias) in
              let ds : has a.0 43 ≡ false = listed 43 (refl, refl) u.unsigned in
              let l : lacks3 43 a.0 ≡ true =
              and_from (not ((nat_eq 43 255 && list_any is_deniable a.0.types) || (has a.0 43 || has a.0 5))) (not (has a.0 6))
              (not_from_false ((nat_eq 43 255 && list_any is_deniable a.0.types) || (has a.0 43 || has a.0 5)) (or_from (nat_eq 43 255 && list_any is_deniable a.0.types) (has a.0 43 || has a.0 5) refl (or_from (has a.0 43) (has a.0 5) ds five)))
              (not_from_false (has a.0 6) six) in
              shown a.0 a.1 (and_from (matches3 h name a.0) (lacks3 t a.0) m (subst (λ (s : ℕ). lacks3 s a.0 ≡ true) (sym (is_ds z start t name k r)) l))

      by_given_ds : (b : Bool) → is_given z t name ≡ b → (x : Bool) → exists z name ≡ x →
          (if b then (x || proves_expansion3 h chosen (longer (encloser z name) name)) else (if x then proves_no_data3 h chosen name t else (if exists z (wildcard z name) then proves_wildcard_no_data3 h chosen name t else proves_name_error3 h chosen name))) ≡ true
      by_given_ds b f false e = absurd (true≢false (sym (there z start t name k r) ∙ e))
      by_given_ds true f true e = refl
      by_given_ds false f true e = ds_absent f

    -- ---- at another name

    module _ (k : is_cut_off z name ≡ false) where
      answered : IsAnswered z name
      answered = record { cut = k; dname = r.dname }

      no_type : is_given z t name ≡ false → exists z name ≡ true → proves_no_data3 h chosen name t ≡ true
      no_type f e = by_match (cases_Bool (is_matched h ns name))
        where
          by_match : (is_matched h ns name ≡ true) ⊎ (is_matched h ns name ≡ false) → proves_no_data3 h chosen name t ≡ true
          by_match (inl q) = let a = chosen_own z h ns chosen w name c q in shown a.0 a.1 (lacking z h ns w name t a.0 within e k q (none_of z t name true e f) d a.2)
          by_match (inr q) = left_out e q

      module _ (e : exists z name ≡ false) where
        none : is_matched h ns name ≡ false
        none = unmatched z h ns w name e (o.above name (ends_itself name))

        above : any_matched h ns name ≡ true
        above = inside z h ns w name within

        no_name : exists z (wildcard z name) ≡ false → proves_name_error3 h chosen name ≡ true
        no_name g =
            let b = picked_wild z h ns chosen w name c none in
            at_missing z h ns w name chosen (λ (x : List (List ℕ)). list_any (covers3 h (star ∷ x)) chosen) (picked z h ns chosen w name c none) within answered e o.above
            (present (covers3 h (star ∷ provable h ns name)) chosen b.0 b.1 (other z h ns w (star ∷ provable h ns name) b.0 (unmatched z h ns w (star ∷ provable h ns name) (v.none e g) o.wild) b.2))

        wild_type : exists z (wildcard z name) ≡ true → is_given z t name ≡ false → proves_wildcard_no_data3 h chosen name t ≡ true
        wild_type g f =
            let b = picked_wild z h ns chosen w name c none in
            let l = v.closest e g in
            let s : wildcard z name ≡ star ∷ provable h ns name = ap (λ (x : List (List ℕ)). star ∷ x) (sym l.0) in
            let n : HasNone z (star ∷ provable h ns name) t = subst (λ (x : List (List ℕ)). HasNone z x t) s (none_of z t name false e f) in
            let p : CanBeDenied z (star ∷ provable h ns name) t = subst (λ (x : List (List ℕ)). CanBeDenied z x t) s (record { deniable = d.deniable; parent = never (nat_eq t 43) (same_name (wildcard z name) z.apex) (not_apex z start name within) }) in
            let x : exists z (star ∷ provable h ns name) ≡ true = subst (λ (y : List (List ℕ)). exists z y ≡ true) s g in
            let m : is_matched h ns (star ∷ provable h ns name) ≡ true = subst (λ (y : List (List ℕ)). is_matched h ns y ≡ true) s l.1 in
            let u : is_cut_off z (star ∷ provable h ns name) ≡ false = wild_uncut z start (provable h ns name) (answered_above z name (provable h ns name) k (provable_above h ns name)) in
            at_missing z h ns w name chosen (λ (y : List (List ℕ)). list_any (λ (q : Nsec3State). matches3 h (star ∷ y) q && lacks3 t q) chosen) (picked z h ns chosen w name c none) within answered e o.above
            (present (λ (q : Nsec3State). matches3 h (star ∷ provable h ns name) q && lacks3 t q) chosen b.0 b.1 (lacking z h ns w (star ∷ provable h ns name) t b.0 (wild_inside z h ns w name within) x u m n p b.2))
          where
            never : (p q : Bool) → q ≡ false → (p && q) ≡ false
            never true q e = e
            never false q e = refl

        expanded : is_given z t name ≡ true → proves_expansion3 h chosen (longer (encloser z name) name) ≡ true
        expanded f =
            let l = v.closest e (given_wild z t name e f) in
            let p = picked z h ns chosen w name c none in
            let s = shape h ns name above none in
            let q : closer h ns name ≡ longer (encloser z name) name = next_is h ns name above none ∙ ap (λ (x : List (List ℕ)). longer x name) l.0 in
            subst (λ (x : List (List ℕ)). proves_expansion3 h chosen x ≡ true) q (present (covers3 h (closer h ns name)) chosen p.next p.next_in (other z h ns w (closer h ns name) p.next s.missing p.next_near))

      by_given : (b : Bool) → is_given z t name ≡ b → (x : Bool) → exists z name ≡ x → (y : Bool) → exists z (wildcard z name) ≡ y →
          (if b then (x || proves_expansion3 h chosen (longer (encloser z name) name)) else (if x then proves_no_data3 h chosen name t else (if y then proves_wildcard_no_data3 h chosen name t else proves_name_error3 h chosen name))) ≡ true
      by_given true f true e y g = refl
      by_given true f false e y g = expanded e f
      by_given false f true e y g = no_type f e
      by_given false f false e true g = wild_type e g f
      by_given false f false e false g = no_name e g

    by_cut : (is_cut_off z name ≡ true) ⊎ (is_cut_off z name ≡ false) → is_accepted_within3 z h chosen t name ≡ true
    by_cut (inl k) = by_given_ds k (is_given z t name) refl (exists z name) refl
    by_cut (inr k) = by_given k (is_given z t name) refl (exists z name) refl (exists z (wildcard z name)) refl

  by_region : (r : Region) → asked_region z t name ≡ r → AreChosen h ns chosen (sought_by name r) → is_accepted_by3 z h chosen t name r ≡ true
  by_region Within e c = by_cut (reached z start t name e) c (cases_Bool (is_cut_off z name))
  by_region (BelowCut rs) e c = referred rs (asked_cut z start t name rs e) c
  by_region (BelowDname rs) e c = refl

pub each_absence3 : EachAbsenceIsProved3
each_absence3 z h ns chosen t name w i d v o c = by_region z h ns chosen t name w i d v o (asked_region z t name) refl c
