-- What a reply says of a name is accepted with the NSEC3s that are chosen for it.
use Rattle.std.proofs.Common.{◌≡◌, ℕ, zero, suc, ◌<◌, Bool, true, false, List, [], ◌∷◌, ◌++◌, length, nat_eq, refl, ap, sym, subst, ◌∙◌, arith, inl, inr}
use Rattle.std.specs.Prelude.{◌&&◌, ◌||◌, ◌⊎◌, not, if◌then◌else◌}
use Rattle.std.specs.List.{Contains, list_any}
use Rattle.std.proofs.lemmas.Bool.{true≢false, and_from, and_left, and_parts, cases_Bool, false_from_ne_true, not_from_false, or_from, or_left, or_parts, or_right}
use Rattle.dns_name.specs.Canonical.{same_name}
use Rattle.dns_message.specs.declared.record.Record.{Record}
use Rattle.dns_route.specs.Routes.{ends_name}
use Rattle.dns_zone.specs.Cuts.{is_cut_off}
use Rattle.dns_zone.specs.Owned.{ZoneState, asked_records, is_asked, is_of, is_owned}
use Rattle.dns_zone.specs.ZoneReply.{exists, follows}
use Rattle.dns_zone_tree.specs.Regions.{Region, Within, BelowCut, BelowDname, asked_region}
use Rattle.dns_zone_tree.specs.Wildcards.{are_some, encloser, had_records, star, wildcard}
use Rattle.dns_denial.specs.Accepted.{is_given, servers_owner}
use Rattle.dns_denial.specs.Accepted3.{IsProvable, is_accepted3, is_accepted_by3, longer}
use Rattle.dns_denial.specs.Chains.{IsDeniable, is_deniable, is_record_at}
use Rattle.dns_denial.specs.Denials.{CanBeDenied, HasNone, IsAnswered, IsUnsigned, is_under_dname}
use Rattle.dns_denial.specs.Nsec3.{AreApart, Hashing, IsNear, IsWhole3, Nsec3State, at_encloser, closer, covers3, has, is_delegation3, is_matched, lacks3, matches3, next_closer, opts_out, provable, proves_expansion3, proves_insecure3, proves_name_error3, proves_no_data3, proves_wildcard_no_data3}
use Rattle.dns_denial.proofs.Accepted3Laws.{next_is}
use Rattle.dns_denial.proofs.AcceptedLaws.{had_some, is_ds, none_of, there, unsigned_at, unsigned_cut}
use Rattle.dns_denial.proofs.ChainLaws.{answered_above}
use Rattle.dns_denial.proofs.HashLaws.{Picked, at_missing, cut_exists, delegation_listed, inside, lacking, opted_out, other, own, wild_inside}
use Rattle.dns_denial.proofs.ListLaws.{found, present}
use Rattle.dns_denial.proofs.NameLaws.{ends_itself, ends_trans, same_back, same_ends}
use Rattle.dns_denial.proofs.ProvableLaws.{any_matched, provable_above, provable_here, provable_matched, shape}
use Rattle.dns_denial.proofs.RegionLaws.{AtCut, Reached, asked_cut, reached}
use Rattle.dns_denial.proofs.StartLaws.{HasStart, starts, wild_uncut, within_all}
use Rattle.dns_denial.proofs.TypeLaws.{no_soa, not_at}
use Rattle.dns_denial.proofs.WildLaws.{not_apex}
use Rattle.dns_hashed_zone.specs.HashedStates.{HashedState}
use Rattle.dns_hashed_reply.specs.HashedReplies.{collides, encloser_of, encloser_proof, fails_at, fails_by, fails_within, missing_proof, own_proof, proved_by, proved_names, proved_within, wildcard_of}
use Rattle.dns_hashed_reply.proofs.ApartLaws.{apart_by, apart_there, no_collision}

-- a wildcard's records that are given are there
given_wild : (z : ZoneState) (t : ℕ) (name : List (List ℕ)) → exists z name ≡ false → is_given z t name ≡ true → exists z (wildcard z name) ≡ true
given_wild z t name e g = by_either (cases_Bool (are_some (had_records z name t)))
  where
    owned : (u : ℕ) → are_some (had_records z name u) ≡ true → exists z (wildcard z name) ≡ true
    owned u k =
        let f = found (is_asked (wildcard z name) u) z.records (sym (had_some z name u false e) ∙ k) in
        present (λ (r : Record). ends_name r.owner (wildcard z name)) z.records f.one f.there (same_ends f.one.owner (wildcard z name) (and_parts (is_owned (wildcard z name) f.one) (nat_eq u 255 || is_of u f.one) f.passes).0)

    second : (a b : Bool) → (a || b) ≡ true → a ≡ false → b ≡ true
    second true b k l = absurd (true≢false l)
    second false b k l = k

    by_either : (are_some (had_records z name t) ≡ true) ⊎ (are_some (had_records z name t) ≡ false) → exists z (wildcard z name) ≡ true
    by_either (inl k) = owned t k
    by_either (inr k) = owned 5 (and_parts (follows t) (are_some (had_records z name 5)) (second (are_some (had_records z name t)) (follows t && are_some (had_records z name 5)) g k)).1

module _ (s : HashedState) (chosen : List Nsec3State) (t : ℕ) (name : List (List ℕ)) (w : IsWhole3 s.zone s.hashing s.nsec3s) (within : ends_name name s.zone.apex ≡ true) (d : CanBeDenied s.zone name t) (v : IsProvable s.zone s.hashing s.nsec3s t name)
    (of_chain : (n : Nsec3State) → Contains chosen n → Contains s.nsec3s n) (fine : fails_at s t name ≡ false)
    (all : (x : List (List ℕ)) → Contains (proved_names s t name) x → (n : Nsec3State) × Contains chosen n × IsNear s.hashing s.nsec3s x n) where
  abbrev z : ZoneState
  z = s.zone

  abbrev h : Hashing
  h = s.hashing

  abbrev ns : List Nsec3State
  ns = s.nsec3s

  start : HasStart z
  start = starts z w.zone

  -- those of the closest encloser proof of a name
  picked : (target : List (List ℕ)) → ((x : List (List ℕ)) → Contains (encloser_proof s target) x → (n : Nsec3State) × Contains chosen n × IsNear h ns x n) → Picked z h ns w target chosen
  picked target a =
      let e = a (provable h ns target) (zero, omega arith, refl) in
      let c = a (closer h ns target) (suc zero, omega arith, refl) in
      record { of_chain = of_chain; encloser = e.0; encloser_in = e.1; encloser_near = e.2; next = c.0; next_in = c.1; next_near = c.2 }

  -- that of a name that has one
  alone : (target : List (List ℕ)) → is_matched h ns target ≡ true → ((x : List (List ℕ)) → Contains (own_proof s target) x → (n : Nsec3State) × Contains chosen n × IsNear h ns x n) → (n : Nsec3State) × Contains chosen n × IsNear h ns target n
  alone target m a = a target (subst (λ (l : List (List (List ℕ))). Contains l target) (sym (ap (λ (b : Bool). if b then target ∷ [] else encloser_proof s target) m)) (zero, omega arith, refl))

  -- those of one that has none
  without : (target : List (List ℕ)) → is_matched h ns target ≡ false → ((x : List (List ℕ)) → Contains (own_proof s target) x → (n : Nsec3State) × Contains chosen n × IsNear h ns x n) → Picked z h ns w target chosen
  without target m a = picked target (λ x c. a x (subst (λ (l : List (List (List ℕ))). Contains l x) (sym (ap (λ (b : Bool). if b then target ∷ [] else encloser_proof s target) m)) c))

  -- ---- a referral

  module _ (rs : List Record) (e : asked_region z t name ≡ BelowCut rs) where
    abbrev cut : List (List ℕ)
    cut = servers_owner rs

    at : AtCut z start name rs
    at = asked_cut z start t name rs e

    for_cut : are_some (asked_records z cut 43) ≡ false → (x : List (List ℕ)) → Contains (own_proof s cut) x → (n : Nsec3State) × Contains chosen n × IsNear h ns x n
    for_cut g x c = all x (subst (λ (l : List (List (List ℕ))). Contains l x) (sym (ap (proved_by s t name) e ∙ ap (λ (b : Bool). if b then [] else own_proof s cut) g)) c)

    insecure : are_some (asked_records z cut 43) ≡ false → proves_insecure3 h chosen cut ≡ true
    insecure g = by_match (cases_Bool (is_matched h ns cut))
      where
        u : IsUnsigned z cut
        u = unsigned_cut z start name rs at g

        by_match : (is_matched h ns cut ≡ true) ⊎ (is_matched h ns cut ≡ false) → proves_insecure3 h chosen cut ≡ true
        by_match (inl m) =
            let k = alone cut m (for_cut g) in
            let o = own z h ns w cut k.0 m k.2 in
            or_left (list_any (λ (x : Nsec3State). matches3 h cut x && (is_delegation3 x && not (has x 43))) chosen) (at_encloser h chosen (λ (x : List (List ℕ)). true) (next_closer h chosen cut) && opts_out h chosen (next_closer h chosen cut))
            (present (λ (x : Nsec3State). matches3 h cut x && (is_delegation3 x && not (has x 43))) chosen k.0 k.1 (and_from (matches3 h cut k.0) (is_delegation3 k.0 && not (has k.0 43)) o (delegation_listed z h ns w cut k.0 u k.2.one o)))
        by_match (inr m) =
            let n : is_under_dname z cut ≡ false = ap (is_under_dname z) at.owner ∙ at.dname in
            let x = cut_exists z h ns w cut u in
            or_right (list_any (λ (x : Nsec3State). matches3 h cut x && (is_delegation3 x && not (has x 43))) chosen) (at_encloser h chosen (λ (x : List (List ℕ)). true) (next_closer h chosen cut) && opts_out h chosen (next_closer h chosen cut))
            (opted_out z h ns w cut chosen (without cut m (for_cut g)) cut_within x u.first n m (apart_there h ns z cut x))
          where
            cut_within : ends_name cut z.apex ≡ true
            cut_within =
                let f = found (is_record_at cut 2) z.records u.servers in
                let p = and_parts (is_owned cut f.one) (is_of 2 f.one) f.passes in
                ends_trans cut f.one.owner z.apex (same_ends cut f.one.owner (same_back f.one.owner cut p.0)) (within_all z.apex z.records start.within f.one f.there)

    referred : (are_some (asked_records z cut 43) || proves_insecure3 h chosen cut) ≡ true
    referred = by_ds (cases_Bool (are_some (asked_records z cut 43)))
      where
        by_ds : (are_some (asked_records z cut 43) ≡ true) ⊎ (are_some (asked_records z cut 43) ≡ false) → (are_some (asked_records z cut 43) || proves_insecure3 h chosen cut) ≡ true
        by_ds (inl g) = or_left (are_some (asked_records z cut 43)) (proves_insecure3 h chosen cut) g
        by_ds (inr g) = or_right (are_some (asked_records z cut 43)) (proves_insecure3 h chosen cut) (insecure g)

  -- ---- a name that is reached

  module _ (e : asked_region z t name ≡ Within) where
    r : Reached z start t name
    r = reached z start t name e

    names : proved_names s t name ≡ proved_within s t name
    names = ap (proved_by s t name) e

    within_fine : fails_within s t name ≡ false
    within_fine = sym (ap (fails_by s t name) e) ∙ fine

    for_names : (ks : List (List (List ℕ))) → proved_within s t name ≡ ks → (x : List (List ℕ)) → Contains ks x → (n : Nsec3State) × Contains chosen n × IsNear h ns x n
    for_names ks q x c = all x (subst (λ (l : List (List (List ℕ))). Contains l x) (sym (names ∙ q)) c)

    -- ---- one that exists

    module _ (x : exists z name ≡ true) (f : is_given z t name ≡ false) where
      own_names : proved_within s t name ≡ own_proof s name
      own_names = ap (λ (b : Bool). if b then (if is_given z t name then [] else own_proof s name) else missing_proof s t name) x ∙ ap (λ (b : Bool). if b then [] else own_proof s name) f

      shown : (n : Nsec3State) → Contains chosen n → (matches3 h name n && lacks3 t n) ≡ true → proves_no_data3 h chosen name t ≡ true
      shown n k g =
          or_left (list_any (λ (q : Nsec3State). matches3 h name q && lacks3 t q) chosen) (nat_eq t 43 && (at_encloser h chosen (λ (y : List (List ℕ)). true) (next_closer h chosen name) && opts_out h chosen (next_closer h chosen name)))
          (present (λ (q : Nsec3State). matches3 h name q && lacks3 t q) chosen n k g)

      -- a span with Opt-Out leaves out its NSEC3
      left_out : is_matched h ns name ≡ false → proves_no_data3 h chosen name t ≡ true
      left_out m =
          or_right (list_any (λ (n : Nsec3State). matches3 h name n && lacks3 t n) chosen) (nat_eq t 43 && (at_encloser h chosen (λ (y : List (List ℕ)). true) (next_closer h chosen name) && opts_out h chosen (next_closer h chosen name)))
          (and_from (nat_eq t 43) (at_encloser h chosen (λ (y : List (List ℕ)). true) (next_closer h chosen name) && opts_out h chosen (next_closer h chosen name)) (by_type (cases_Bool (nat_eq t 43)))
          (opted_out z h ns w name chosen (without name m (for_names (own_proof s name) own_names)) within x r.first r.dname m (apart_there h ns z name x)))
        where
          by_type : (nat_eq t 43 ≡ true) ⊎ (nat_eq t 43 ≡ false) → nat_eq t 43 ≡ true
          by_type (inl q) = q
          by_type (inr q) = absurd (true≢false (sym (v.held x q) ∙ m))

      -- a delegation point, whose DS is asked for
      ds_absent : is_cut_off z name ≡ true → is_matched h ns name ≡ true → proves_no_data3 h chosen name t ≡ true
      ds_absent k m =
          let a = alone name m (for_names (own_proof s name) own_names) in
          let o = own z h ns w name a.0 m a.2 in
          let b : HasNone z name 43 = subst (HasNone z name) (is_ds z start t name k r) (none_of z t name true x f) in
          let u : IsUnsigned z name = unsigned_at z start t name k r b in
          let listed : (y : ℕ) → IsDeniable y → list_any (is_record_at name y) z.records ≡ false → has a.0 y ≡ false = λ y p g.
          w.chain.types a.0 a.2.one name within x r.first o y p ∙ and_left (list_any (is_record_at name y) z.records) (not (is_cut_off z name) || (nat_eq y 2 || nat_eq y 43)) g in
          let six : has a.0 6 ≡ false = listed 6 (refl, refl) (no_soa z start name u.inner) in
          let five : has a.0 5 ≡ false = listed 5 (refl, refl) (not_at z name 5 b.alias) in
          let ds : has a.0 43 ≡ false = listed 43 (refl, refl) u.unsigned in
          let l : lacks3 43 a.0 ≡ true =
          and_from (not ((nat_eq 43 255 && list_any is_deniable a.0.types) || (has a.0 43 || has a.0 5))) (not (has a.0 6))
          (not_from_false ((nat_eq 43 255 && list_any is_deniable a.0.types) || (has a.0 43 || has a.0 5)) (or_from (nat_eq 43 255 && list_any is_deniable a.0.types) (has a.0 43 || has a.0 5) refl (or_from (has a.0 43) (has a.0 5) ds five)))
          (not_from_false (has a.0 6) six) in
          shown a.0 a.1 (and_from (matches3 h name a.0) (lacks3 t a.0) o (subst (λ (y : ℕ). lacks3 y a.0 ≡ true) (sym (is_ds z start t name k r)) l))

      no_data : proves_no_data3 h chosen name t ≡ true
      no_data = by_match (cases_Bool (is_matched h ns name)) (cases_Bool (is_cut_off z name))
        where
          by_match : (is_matched h ns name ≡ true) ⊎ (is_matched h ns name ≡ false) → (is_cut_off z name ≡ true) ⊎ (is_cut_off z name ≡ false) → proves_no_data3 h chosen name t ≡ true
          by_match (inr m) k = left_out m
          by_match (inl m) (inl k) = ds_absent k m
          by_match (inl m) (inr k) = let a = alone name m (for_names (own_proof s name) own_names) in shown a.0 a.1 (lacking z h ns w name t a.0 within x k m (none_of z t name true x f) d a.2)

    -- ---- one that doesn't

    module _ (x : exists z name ≡ false) where
      uncut : is_cut_off z name ≡ false
      uncut = false_from_ne_true (is_cut_off z name) (λ k. true≢false (sym (there z start t name k r) ∙ x))

      answered : IsAnswered z name
      answered = record { cut = uncut; dname = r.dname }

      above : any_matched h ns name ≡ true
      above = inside z h ns w name within

      -- no hash collides
      neither : (collides s (encloser_of s name) || (not (is_given z t name) && collides s (wildcard_of s name))) ≡ false
      neither = sym (ap (λ (b : Bool). not b && (collides s (encloser_of s name) || (not (is_given z t name) && collides s (wildcard_of s name)))) x) ∙ within_fine

      encloser_there : exists z (provable h ns name) ≡ true
      encloser_there = no_collision (is_matched h ns (provable h ns name)) (exists z (provable h ns name)) (or_parts (collides s (encloser_of s name)) (not (is_given z t name) && collides s (wildcard_of s name)) neither).0 (provable_matched h ns name above)

      apart : AreApart z h ns name
      apart = apart_by h ns z name encloser_there

      none : is_matched h ns name ≡ false
      none = false_from_ne_true (is_matched h ns name) (λ m. true≢false (sym (apart name (ends_itself name) m) ∙ x))

      missing_names : proved_within s t name ≡ missing_proof s t name
      missing_names = ap (λ (b : Bool). if b then (if is_given z t name then [] else own_proof s name) else missing_proof s t name) x

      -- a wildcard's records are given
      expanded : is_given z t name ≡ true → proves_expansion3 h chosen (longer (encloser z name) name) ≡ true
      expanded f =
          let l = v.closest x (given_wild z t name x f) in
          let a = for_names (closer h ns name ∷ []) (missing_names ∙ ap (λ (b : Bool). if b then closer h ns name ∷ [] else encloser_proof s name ++ wildcard_of s name ∷ []) f) (closer h ns name) (zero, omega arith, refl) in
          let k = shape h ns name above none in
          let q : closer h ns name ≡ longer (encloser z name) name = next_is h ns name above none ∙ ap (λ (y : List (List ℕ)). longer y name) l.0 in
          subst (λ (y : List (List ℕ)). proves_expansion3 h chosen y ≡ true) q (present (covers3 h (closer h ns name)) chosen a.0 a.1 (other z h ns w (closer h ns name) a.0 k.missing a.2))

      -- none are
      module _ (f : is_given z t name ≡ false) where
        three : (y : List (List ℕ)) → Contains (encloser_proof s name ++ wildcard_of s name ∷ []) y → (n : Nsec3State) × Contains chosen n × IsNear h ns y n
        three = for_names (encloser_proof s name ++ wildcard_of s name ∷ []) (missing_names ∙ ap (λ (b : Bool). if b then closer h ns name ∷ [] else encloser_proof s name ++ wildcard_of s name ∷ []) f)

        pick : Picked z h ns w name chosen
        pick =
            let a = three (provable h ns name) (zero, omega arith, refl) in
            let c = three (closer h ns name) (suc zero, omega arith, refl) in
            record { of_chain = of_chain; encloser = a.0; encloser_in = a.1; encloser_near = a.2; next = c.0; next_in = c.1; next_near = c.2 }

        wild : (n : Nsec3State) × Contains chosen n × IsNear h ns (wildcard_of s name) n
        wild = three (wildcard_of s name) (suc (suc zero), omega arith, refl)

        wild_apart : is_matched h ns (wildcard_of s name) ≡ true → exists z (wildcard_of s name) ≡ true
        wild_apart = no_collision (is_matched h ns (wildcard_of s name)) (exists z (wildcard_of s name))
            (sym (ap (λ (b : Bool). not b && collides s (wildcard_of s name)) f) ∙ (or_parts (collides s (encloser_of s name)) (not (is_given z t name) && collides s (wildcard_of s name)) neither).1)

        no_name : exists z (wildcard z name) ≡ false → proves_name_error3 h chosen name ≡ true
        no_name g =
            let m : is_matched h ns (wildcard_of s name) ≡ false = false_from_ne_true (is_matched h ns (wildcard_of s name)) (λ q. true≢false (sym (wild_apart q) ∙ v.none x g)) in
            at_missing z h ns w name chosen (λ (y : List (List ℕ)). list_any (covers3 h (star ∷ y)) chosen) pick within answered x apart
            (present (covers3 h (wildcard_of s name)) chosen wild.0 wild.1 (other z h ns w (wildcard_of s name) wild.0 m wild.2))

        wild_type : exists z (wildcard z name) ≡ true → proves_wildcard_no_data3 h chosen name t ≡ true
        wild_type g =
            let l = v.closest x g in
            let q : wildcard z name ≡ wildcard_of s name = ap (λ (y : List (List ℕ)). star ∷ y) (sym l.0) in
            let n : HasNone z (wildcard_of s name) t = subst (λ (y : List (List ℕ)). HasNone z y t) q (none_of z t name false x f) in
            let p : CanBeDenied z (wildcard_of s name) t = subst (λ (y : List (List ℕ)). CanBeDenied z y t) q (record { deniable = d.deniable; parent = never (nat_eq t 43) (same_name (wildcard z name) z.apex) (not_apex z start name within) }) in
            let y : exists z (wildcard_of s name) ≡ true = subst (λ (a : List (List ℕ)). exists z a ≡ true) q g in
            let m : is_matched h ns (wildcard_of s name) ≡ true = subst (λ (a : List (List ℕ)). is_matched h ns a ≡ true) q l.1 in
            let u : is_cut_off z (wildcard_of s name) ≡ false = wild_uncut z start (provable h ns name) (answered_above z name (provable h ns name) uncut (provable_above h ns name)) in
            at_missing z h ns w name chosen (λ (a : List (List ℕ)). list_any (λ (o : Nsec3State). matches3 h (star ∷ a) o && lacks3 t o) chosen) pick within answered x apart
            (present (λ (o : Nsec3State). matches3 h (wildcard_of s name) o && lacks3 t o) chosen wild.0 wild.1 (lacking z h ns w (wildcard_of s name) t wild.0 (wild_inside z h ns w name within) y u m n p wild.2))
          where
            never : (a b : Bool) → b ≡ false → (a && b) ≡ false
            never true b g = g
            never false b g = refl

    by_tests : (b : Bool) → is_given z t name ≡ b → (x : Bool) → exists z name ≡ x → (y : Bool) → exists z (wildcard z name) ≡ y →
        (if b then (x || proves_expansion3 h chosen (longer (encloser z name) name)) else (if x then proves_no_data3 h chosen name t else (if y then proves_wildcard_no_data3 h chosen name t else proves_name_error3 h chosen name))) ≡ true
    by_tests true f true x y g = refl
    by_tests true f false x y g = expanded x f
    by_tests false f true x y g = no_data x f
    by_tests false f false x true g = wild_type x f g
    by_tests false f false x false g = no_name x f g

  by_region : (g : Region) → asked_region z t name ≡ g → is_accepted_by3 z h chosen t name g ≡ true
  by_region Within e = by_tests e (is_given z t name) refl (exists z name) refl (exists z (wildcard z name)) refl
  by_region (BelowCut rs) e = referred rs e
  by_region (BelowDname ds) e = refl

  pub accepted3 : is_accepted3 z h chosen t name ≡ true
  accepted3 = by_region (asked_region z t name) refl
