-- The NSEC3s for one name, by where a walk to it ends.
use Rattle.std.proofs.Common.{◌≡◌, ℕ, zero, suc, ◌+◌, ◌≤◌, ◌<◌, Bool, true, false, List, [], ◌∷◌, ◌++◌, length, drop, map, get_or, nat_eq, Some, None, refl, ap, sym, subst, ◌∙◌, arith, inl, inr, length-append}
use Rattle.std.specs.Prelude.{◌||◌, ◌&&◌, ◌⊎◌, not, if◌then◌else◌, Option}
use Rattle.std.specs.List.{Contains, slice_get, cons_option}
use Rattle.std.proofs.lemmas.Bool.{true≢false, and_from, cases_lt, false_from_ne_true, or_left}
use Rattle.dns_name.specs.Canonical.{same_name}
use Rattle.dns_name.specs.Labels.{AreLabels, IsName, spell}
use Rattle.dns_message.specs.declared.record.Record.{Record}
use Rattle.dns_route.specs.Routes.{ends_name}
use Rattle.dns_zone.specs.Owned.{ZoneState, asked_records}
use Rattle.dns_zone.specs.Places.{at_places}
use Rattle.dns_zone.specs.ZoneReply.{exists}
use Rattle.dns_zone_tree.specs.Regions.{Region, Within, BelowCut, BelowDname, asked_region}
use Rattle.dns_zone_tree.specs.Walks.{IsNode, ReachesNode, ReachesNone}
use Rattle.dns_zone_tree.specs.Wildcards.{are_some, encloser, star, wildcard}
use Rattle.dns_zone_tree.specs.declared.kinds.Kinds.{Kinds}
use Rattle.dns_denial.specs.Accepted.{is_given, servers_owner}
use Rattle.dns_denial.specs.Chains.{is_below_cut}
use Rattle.dns_denial.specs.Denials.{is_under_dname}
use Rattle.dns_denial.specs.Nsec3.{Hashing, IsWhole3, Nsec3State, closer, is_matched, provable}
use Rattle.dns_denial.proofs.HashLaws.{inside}
use Rattle.dns_denial.proofs.NameLaws.{ends_cons, ends_root, ends_short, ends_within, same_back, same_ends}
use Rattle.dns_denial.proofs.ProvableLaws.{any_matched, provable_above, provable_cons, provable_here, provable_matched, up_step}
use Rattle.dns_denial.proofs.RegionLaws.{asked_below, asked_cut}
use Rattle.dns_denial.proofs.StartLaws.{HasStart, starts, within_all}
use Rattle.dns_denial.proofs.WildLaws.{above_encloser, apex_exists}
use Rattle.dns_name_server.specs.Steps.{head_of}
use Rattle.dns_signed_reply.specs.PlainReplies.{gives}
use Rattle.dns_signed_reply.specs.SignedReplies.{if_within, owned_records}
use Rattle.dns_signed_reply.proofs.NearLaws.{asked_dname, node_given, wild_given}
use Rattle.dns_hashed_zone.specs.HashedStates.{HashedState}
use Rattle.dns_hashed_zone.specs.Searches.{near_place}
use Rattle.dns_hashed_reply.specs.Choices.{names_places}
use Rattle.dns_hashed_reply.specs.HashedReplies.{collides, encloser_of, fails_at, fails_by, fails_within, missing_proof, own_proof, places_of, proved_by, proved_names, wildcard_of}
use Rattle.dns_hashed_reply.proofs.ApartLaws.{exists_up}

-- what isn't longer
pub not_longer : (b : Bool) (x y : ℕ) → b ≡ false → (x < y → b ≡ true) → y ≤ x
not_longer b x y e f = by_order (cases_lt x y)
  where
    by_order : (x < y) ⊎ (y ≤ x) → y ≤ x
    by_order (inl l) = absurd (true≢false (sym (f l) ∙ e))
    by_order (inr l) = l

-- ---- closest enclosers

-- a name that another ends with and that exists is no longer than the closest encloser
longest : (z : ZoneState) (ls t : List (List ℕ)) → ends_name ls t ≡ true → exists z t ≡ true → length t ≤ length (encloser z ls)
longest z [] t e x = ends_short [] t e
longest z (l ∷ ls) t e x = by_test (longest z ls t) (exists z (l ∷ ls)) refl
  where
    by_cons : (ends_name ls t ≡ true → exists z t ≡ true → length t ≤ length (encloser z ls)) → exists z (l ∷ ls) ≡ false → (same_name (l ∷ ls) t ≡ true) ⊎ (ends_name ls t ≡ true) → length t ≤ length (encloser z ls)
    by_cons ih f (inl k) = absurd (true≢false (sym (exists_up z t (l ∷ ls) x (same_ends t (l ∷ ls) (same_back (l ∷ ls) t k))) ∙ f))
    by_cons ih f (inr k) = ih k x

    by_test : (ends_name ls t ≡ true → exists z t ≡ true → length t ≤ length (encloser z ls)) → (b : Bool) → exists z (l ∷ ls) ≡ b → length t ≤ length (if b then l ∷ ls else encloser z ls)
    by_test ih true f = ends_short (l ∷ ls) t e
    by_test ih false f = by_cons ih f (ends_cons l ls t e)

-- in a zone one exists
encloser_there : (z : ZoneState) → HasStart z → (ls : List (List ℕ)) → exists z (encloser z ls) ≡ true
encloser_there z start [] = exists_up z z.apex [] (apex_exists z start) (ends_root z.apex)
encloser_there z start (l ∷ ls) = by_test (encloser_there z start ls) (exists z (l ∷ ls)) refl
  where
    by_test : exists z (encloser z ls) ≡ true → (b : Bool) → exists z (l ∷ ls) ≡ b → exists z (if b then l ∷ ls else encloser z ls) ≡ true
    by_test ih true f = f
    by_test ih false f = ih

-- a closest provable encloser leaves room for a label of one octet
module _ (h : Hashing) (ns : List Nsec3State) where
  shorter : (ls : List (List ℕ)) → length (spell (provable h ns ls)) ≤ length (spell ls)
  shorter [] = omega arith
  shorter (l ∷ ls) = by_test (shorter ls) (is_matched h ns (l ∷ ls))
    where
      by_test : length (spell (provable h ns ls)) ≤ length (spell ls) → (b : Bool) → length (spell (if b then l ∷ ls else provable h ns ls)) ≤ length (spell (l ∷ ls))
      by_test ih true = omega arith
      by_test ih false = omega (arith, ih, length-append l (spell ls))

  pub room_for : (name : List (List ℕ)) → IsName name → is_matched h ns name ≡ false → any_matched h ns name ≡ true → length (spell (provable h ns name)) ≤ 253
  room_for [] n m a = absurd (true≢false (sym a ∙ m))
  room_for (l ∷ ls) n m a =
      let k : provable h ns (l ∷ ls) ≡ provable h ns ls = provable_cons h ns l ls m in
      omega (arith, ap (λ (x : List (List ℕ)). length (spell x)) k, shorter ls, length-append l (spell ls), n.room, n.labels.0)

-- ---- a name that exists

module _ (s : HashedState) (t : ℕ) (name : List (List ℕ)) where
  abbrev within : Bool → Bool → List (List (List ℕ))
  within a b = if a then (if b then [] else own_proof s name) else missing_proof s t name

  abbrev missing : Bool → List (List (List ℕ))
  missing b = if b then closer s.hashing s.nsec3s name ∷ [] else encloser_of s name ∷ closer s.hashing s.nsec3s name ∷ wildcard_of s name ∷ []

  pub node_fine : (m : Kinds) → ReachesNode s.zone t name m → false ≡ fails_at s t name
  node_fine m h =
      sym (ap (fails_by s t name) h.region ∙ ap (λ (b : Bool). not b && (collides s (encloser_of s name) || (not (is_given s.zone t name) && collides s (wildcard_of s name)))) h.exists_)

  pub node_places : (m : Kinds) (b : Bool) → ReachesNode s.zone t name m → b ≡ gives t (Some m) → names_places s (if b then [] else own_proof s name) ≡ places_of s t name
  node_places m b h e =
      let k : proved_names s t name ≡ within true b = ap (proved_by s t name) h.region ∙ (λ i. within (h.exists_ i) (sym (e ∙ node_given s.zone t name m h) i)) in
      sym (ap (names_places s) k)

  -- below a DNAME record nothing is denied
  pub dname_fine : (ds : List Record) → asked_region s.zone t name ≡ BelowDname ds → false ≡ fails_at s t name
  dname_fine ds e = sym (ap (fails_by s t name) e)

  pub dname_places : (ds : List Record) → asked_region s.zone t name ≡ BelowDname ds → [] ≡ places_of s t name
  dname_places ds e = sym (ap (λ (g : Region). names_places s (proved_by s t name g)) e)

  -- ---- a name that doesn't exist

  module _ (w : IsWhole3 s.zone s.hashing s.nsec3s) (i : ends_name name s.zone.apex ≡ true) (n : ℕ) (h : ReachesNone s.zone t name n) where
    fails_is : fails_at s t name ≡ (collides s (encloser_of s name) || (not (is_given s.zone t name) && collides s (wildcard_of s name)))
    fails_is = ap (fails_by s t name) h.region ∙ ap (λ (b : Bool). not b && (collides s (encloser_of s name) || (not (is_given s.zone t name) && collides s (wildcard_of s name)))) h.missing

    proved_is : proved_names s t name ≡ missing_proof s t name
    proved_is = ap (proved_by s t name) h.region ∙ ap (λ (b : Bool). within b (is_given s.zone t name)) h.missing

    pub some_matched : any_matched s.hashing s.nsec3s name ≡ true
    some_matched = inside s.zone s.hashing s.nsec3s w name i

    encloser_fails : exists s.zone (encloser_of s name) ≡ false → fails_at s t name ≡ true
    encloser_fails x =
        let m = provable_matched s.hashing s.nsec3s name some_matched in
        fails_is ∙ or_left (collides s (encloser_of s name)) (not (is_given s.zone t name) && collides s (wildcard_of s name))
        (and_from (is_matched s.hashing s.nsec3s (encloser_of s name)) (not (exists s.zone (encloser_of s name))) m (ap not x))

    -- if its hash collides
    pub own_fails : is_matched s.hashing s.nsec3s name ≡ true → fails_at s t name ≡ true
    own_fails m = encloser_fails (ap (exists s.zone) (provable_here s.hashing s.nsec3s name m) ∙ h.missing)

    -- if that of its closest provable encloser does: that one is longer than the closest encloser
    pub long_fails : length (drop n name) < length (encloser_of s name) → fails_at s t name ≡ true
    long_fails l = encloser_fails (false_from_ne_true (exists s.zone (encloser_of s name)) (λ x.
        absurd (omega (arith, l, ap length h.encloser_, longest s.zone name (encloser_of s name) (provable_above s.hashing s.nsec3s name) x))))

    module _ (l : length (encloser_of s name) ≤ length (drop n name)) where
      encloser_fine : collides s (encloser_of s name) ≡ false
      encloser_fine =
          let start = starts s.zone w.zone in
          let k : ends_name (encloser s.zone name) (encloser_of s name) ≡ true =
          ends_within name (encloser s.zone name) (encloser_of s name) (above_encloser s.zone start name) (provable_above s.hashing s.nsec3s name) (omega (arith, l, ap length h.encloser_)) in
          and_not (is_matched s.hashing s.nsec3s (encloser_of s name)) (exists s.zone (encloser_of s name)) (exists_up s.zone (encloser s.zone name) (encloser_of s name) (encloser_there s.zone start name) k)
        where
          and_not : (a b : Bool) → b ≡ true → (a && not b) ≡ false
          and_not true b x = ap not x
          and_not false b x = refl

      abbrev left : Bool → Bool → Bool
      left a b = a || (not b && collides s (wildcard_of s name))

      -- a wildcard's records are given
      pub given_fine : (g : Bool) → g ≡ is_given s.zone t name → g ≡ true → false ≡ fails_at s t name
      given_fine g k x = sym (fails_is ∙ (λ j. left (encloser_fine j) ((sym k ∙ x) j)))

      -- or not
      pub denied_fine : (g : Bool) → g ≡ is_given s.zone t name → g ≡ false → collides s (wildcard_of s name) ≡ fails_at s t name
      denied_fine g k x = sym (fails_is ∙ (λ j. left (encloser_fine j) ((sym k ∙ x) j)))

    pub given_places : (g : Bool) (y : ℕ) → g ≡ is_given s.zone t name → g ≡ true → y ≡ near_place s.hashing s.nsec3s (closer s.hashing s.nsec3s name) → y ∷ [] ≡ places_of s t name
    given_places g y k q c = ap (λ (j : ℕ). j ∷ []) c ∙ sym (ap (names_places s) (proved_is ∙ ap missing (sym k ∙ q)))

    pub denied_places : (g : Bool) (x y : ℕ) (above : List (List ℕ)) → g ≡ is_given s.zone t name → g ≡ false → above ≡ encloser_of s name → x ≡ near_place s.hashing s.nsec3s (encloser_of s name)
        → y ≡ near_place s.hashing s.nsec3s (closer s.hashing s.nsec3s name) → x ∷ y ∷ near_place s.hashing s.nsec3s (star ∷ above) ∷ [] ≡ places_of s t name
    denied_places g x y above k q a b c =
        let three : x ∷ y ∷ near_place s.hashing s.nsec3s (star ∷ above) ∷ [] ≡ names_places s (missing false) = λ j. b j ∷ c j ∷ near_place s.hashing s.nsec3s (star ∷ a j) ∷ [] in
        three ∙ sym (ap (names_places s) (proved_is ∙ ap missing (sym k ∙ q)))

-- ---- a delegation point

-- the first record at some places is one
slice_there : (rs : List Record) (k : ℕ) (r : Record) → slice_get rs k ≡ Some r → Contains rs r
slice_there [] k r e = absurd (cc)
slice_there (x ∷ rs) zero r e = let q : x ≡ r = cc in (zero, omega arith, q)
slice_there (x ∷ rs) (suc k) r e = let i = slice_there rs k r e in (suc i.0, omega (arith, i.1), i.2)

head_there : (rs : List Record) (ks : List ℕ) (r : Record) → Some r ≡ head_of (at_places rs ks) → Contains rs r
head_there rs [] r e = absurd (cc)
head_there rs (k ∷ ks) r e = by_get (head_there rs ks r) (slice_get rs k) refl e
  where
    by_get : (Some r ≡ head_of (at_places rs ks) → Contains rs r) → (o : Option Record) → slice_get rs k ≡ o → Some r ≡ head_of (cons_option o (at_places rs ks)) → Contains rs r
    by_get ih None f g = ih g
    by_get ih (Some x) f g = let q : x ≡ r = cc in slice_there rs k r (f ∙ ap (λ (y : Record). Some y) q)

pub server_inside : (z : ZoneState) → HasStart z → (ks : List ℕ) (r : Record) (cut : List (List ℕ)) → Some r ≡ head_of (at_places z.records ks) → cut ≡ r.owner → ends_name cut z.apex ≡ true
server_inside z start ks r cut e c = ap (λ (x : List (List ℕ)). ends_name x z.apex) c ∙ within_all z.apex z.records start.within r (head_there z.records ks r e)

module _ (s : HashedState) (w : IsWhole3 s.zone s.hashing s.nsec3s) (t : ℕ) (name : List (List ℕ)) (rs : List Record) (e : asked_region s.zone t name ≡ BelowCut rs) where
  abbrev z : ZoneState
  z = s.zone

  -- if DS is asked for, it lies within
  cut_within : asked_region z 43 (servers_owner rs) ≡ Within
  cut_within = by_region (asked_region z 43 (servers_owner rs)) refl
    where
      by_region : (g : Region) → asked_region z 43 (servers_owner rs) ≡ g → g ≡ Within
      by_region Within h = refl
      by_region (BelowCut ss) h =
          let c = asked_cut z (starts z w.zone) t name rs e in
          absurd (true≢false (sym (asked_below z (starts z w.zone) (servers_owner rs) ss h) ∙ (ap (is_below_cut z) c.owner ∙ c.first)))
      by_region (BelowDname ds) h =
          let c = asked_cut z (starts z w.zone) t name rs e in
          absurd (true≢false (sym (asked_dname z 43 (servers_owner rs) ds h) ∙ (ap (is_under_dname z) c.owner ∙ c.dname)))

  cut_inside : ends_name (servers_owner rs) z.apex ≡ true
  cut_inside =
      let c = asked_cut z (starts z w.zone) t name rs e in
      subst (λ (y : List (List ℕ)). ends_name y z.apex ≡ true) (sym c.owner) (within_all z.apex z.records (starts z w.zone).within c.one c.there)

  ds_is : owned_records z (servers_owner rs) 43 ≡ asked_records z (servers_owner rs) 43
  ds_is =
      ap (λ (b : Bool). if b then if_within (asked_region z 43 (servers_owner rs)) (asked_records z (servers_owner rs) 43) else []) cut_inside
      ∙ ap (λ (g : Region). if_within g (asked_records z (servers_owner rs) 43)) cut_within

  pub cut_fine : false ≡ fails_at s t name
  cut_fine = sym (ap (fails_by s t name) e)

  pub cut_places : (owner : List (List ℕ)) → owner ≡ servers_owner rs → names_places s (if are_some (owned_records z owner 43) then [] else own_proof s owner) ≡ places_of s t name
  cut_places owner o =
      ap (λ (y : List (List ℕ)). names_places s (if are_some (owned_records z y 43) then [] else own_proof s y)) o
      ∙ (ap (λ (l : List Record). names_places s (if are_some l then [] else own_proof s (servers_owner rs))) ds_is
      ∙ sym (ap (λ (g : Region). names_places s (proved_by s t name g)) e))

  pub cut_some : rs ≡ [] → ⊥
  cut_some = (asked_cut z (starts z w.zone) t name rs e).some
