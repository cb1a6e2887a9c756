-- The NSEC records that a reply has are, read, the NSECs that are chosen.
use Rattle.std.proofs.Common.{◌≡◌, ℕ, zero, suc, ◌<◌, Bool, true, false, List, [], ◌∷◌, ◌++◌, get_or, nat_eq, refl, ap, sym, subst, ◌∙◌, arith, inl, inr}
use Rattle.std.specs.Prelude.{◌⊎◌, not, if◌then◌else◌}
use Rattle.std.specs.List.{Contains, filter, list_any}
use Rattle.std.proofs.lemmas.Bool.{true≢false, and_from, and_parts, cases_order, eq-eqb}
use Rattle.std.proofs.lemmas.List.{get_or_default}
use Rattle.std.proofs.lemmas.List.Sorted.{Contains-permutation, IsPermutation-sym}
use Rattle.dns_base.specs.Records.{data_type}
use Rattle.dns_name.specs.Canonical.{same_name}
use Rattle.dns_message.specs.declared.question.Question.{Question}
use Rattle.dns_message.specs.declared.record.Record.{Record}
use Rattle.dns_route.specs.Routes.{ends_name}
use Rattle.dns_zone.specs.Owned.{ZoneState, asked_records, is_asked, is_of, is_owned}
use Rattle.dns_zone_tree.specs.Regions.{Region, Within, BelowCut, BelowDname, asked_region}
use Rattle.dns_denial.specs.Nsecs.{AreSorted, NsecState, is_before, is_up_to}
use Rattle.dns_denial.specs.Signed.{is_beside}
use Rattle.dns_denial.proofs.ListLaws.{found}
use Rattle.dns_denial.proofs.NameLaws.{same_back, same_itself}
use Rattle.dns_denial.proofs.OrderLaws.{same_upto}
use Rattle.dns_denial.proofs.StartLaws.{starts, within_all}
use Rattle.dns_nsec_data.specs.NsecData.{AreNsecs, IsNsec, nsec_records}
use Rattle.dns_signed_zone.specs.SignedZones.{SignedState}
use Rattle.dns_signed_reply.proofs.MemberLaws.{from_both, from_filter, from_flat, in_filter, in_left, in_right}
use Rattle.dns_signed_reply.specs.SignedReplies.{chosen, denied_names, if_within, last_of, last_or, nearest, nsec_records_of, others, owned_records}
use Rattle.dns_signed_reply.specs.ReplyLaws.{ChosenAreGiven}

-- ---- NSECs and their records

record Read (rs : List Record) (n : NsecState) : Type 0 where
  one : Record
  there : Contains rs one
  says : IsNsec one n

read_from : (rs : List Record) (ns : List NsecState) → AreNsecs rs ns → (n : NsecState) → Contains ns n → Read rs n
read_from [] [] a n c = absurd (omega (arith, c.1))
read_from [] (m ∷ ns) a n c = absurd a
read_from (r ∷ rs) [] a n c = absurd a
read_from (r ∷ rs) (m ∷ ns) a n (zero, l, e) = record { one = r; there = (zero, omega arith, refl); says = subst (IsNsec r) e a.0 }
read_from (r ∷ rs) (m ∷ ns) a n (suc k, l, e) =
    let i = read_from rs ns a.1 n (k, omega (arith, l), e) in
    record { one = i.one; there = (suc i.there.0, omega (arith, i.there.1), i.there.2); says = i.says }

record Says (ns : List NsecState) (r : Record) : Type 0 where
  one : NsecState
  there : Contains ns one
  says : IsNsec r one

says_from : (rs : List Record) (ns : List NsecState) → AreNsecs rs ns → (r : Record) → Contains rs r → Says ns r
says_from [] [] a r c = absurd (omega (arith, c.1))
says_from [] (m ∷ ns) a r c = absurd a
says_from (q ∷ rs) [] a r c = absurd a
says_from (q ∷ rs) (m ∷ ns) a r (zero, l, e) = record { one = m; there = (zero, omega arith, refl); says = subst (λ (x : Record). IsNsec x m) e a.0 }
says_from (q ∷ rs) (m ∷ ns) a r (suc k, l, e) =
    let i = says_from rs ns a.1 r (k, omega (arith, l), e) in
    record { one = i.one; there = (suc i.there.0, omega (arith, i.there.1), i.there.2); says = i.says }

-- no two NSECs of a chain have one owner
pub sole : (ns : List NsecState) → AreSorted ns → (m n : NsecState) → Contains ns m → Contains ns n → same_name m.owner n.owner ≡ true → m ≡ n
sole ns s m n (i, k, e) (j, l, f) h = by_order (cases_order i j)
  where
    apart : (a b : NsecState) → is_before a.owner b.owner ≡ true → same_name a.owner b.owner ≡ true → ⊥
    apart a b p q = true≢false (sym p ∙ same_upto a.owner b.owner q)

    pair : (a b x y : NsecState) → x ≡ a → y ≡ b → is_before x.owner y.owner ≡ true → is_before a.owner b.owner ≡ true
    pair a b x y p q h = subst (λ (v : NsecState). is_before v.owner b.owner ≡ true) p (subst (λ (v : NsecState). is_before x.owner v.owner ≡ true) q h)

    by_order : (i ≡ j) ⊎ ((i < j) ⊎ (j < i)) → m ≡ n
    by_order (inl q) = sym e ∙ (get_or_default ns i m n k ∙ (ap (λ (x : ℕ). get_or ns x n) q ∙ f))
    by_order (inr (inl q)) = absurd (apart m n (pair m n (get_or ns i n) (get_or ns j n) (sym (get_or_default ns i m n k) ∙ e) f (s i j n q l)) h)
    by_order (inr (inr q)) = absurd (apart n m (pair n m (get_or ns j m) (get_or ns i m) (sym (get_or_default ns j n m l) ∙ f) e (s j i m q k)) (same_back m.owner n.owner h))

-- ---- the records of a reply

module _ (z : ZoneState) where
  -- NSEC records of the zone
  abbrev AreZones : List Record → Type 0
  AreZones rs = (r : Record) → Contains rs r → Contains z.records r × (is_of 47 r ≡ true)

  if_reached : (b : Bool) (g : Region) (rs : List Record) (r : Record) → Contains (if b then if_within g rs else []) r → Contains rs r
  if_reached true Within rs r c = c
  if_reached true (BelowCut ss) rs r c = absurd (omega (arith, c.1))
  if_reached true (BelowDname ds) rs r c = absurd (omega (arith, c.1))
  if_reached false g rs r c = absurd (omega (arith, c.1))

  owned_zones : (name : List (List ℕ)) → AreZones (owned_records z name 47)
  owned_zones name r c =
      let f = from_filter (is_asked name 47) z.records r (if_reached (ends_name name z.apex) (asked_region z 43 name) (asked_records z name 47) r c) in
      (f.0, (and_parts (is_owned name r) (is_of 47 r) f.1).1)

  others_zones : (given rs : List Record) → AreZones given → AreZones rs → AreZones (given ++ others given rs)
  others_zones given rs g h r c = by_part (from_both given (others given rs) r c)
    where
      by_part : Contains given r ⊎ Contains (others given rs) r → Contains z.records r × (is_of 47 r ≡ true)
      by_part (inl k) = g r k
      by_part (inr k) = h r (from_filter (λ (x : Record). not (list_any (is_beside x) given)) rs r k).0

  all_zones : (given : List Record) (ns : List NsecState) → AreZones given → AreZones (nsec_records_of z given ns)
  all_zones given [] g = g
  all_zones given (n ∷ ns) g = all_zones (given ++ others given (owned_records z n.owner 47)) ns (others_zones given (owned_records z n.owner 47) g (owned_zones n.owner))

  -- what is given stays
  stays : (given : List Record) (ns : List NsecState) (r : Record) → Contains given r → Contains (nsec_records_of z given ns) r
  stays given [] r c = c
  stays given (n ∷ ns) r c = stays (given ++ others given (owned_records z n.owner 47)) ns r (in_left given (others given (owned_records z n.owner 47)) r c)

  record Given (rs : List Record) (r : Record) : Type 0 where
    one : Record
    there : Contains rs one
    beside : is_beside r one ≡ true

  itself : (r : Record) → is_beside r r ≡ true
  itself r = and_from (same_name r.owner r.owner) (nat_eq (data_type r.rdata) (data_type r.rdata)) (same_itself r.owner) (eq-eqb (data_type r.rdata) (data_type r.rdata) refl)

  -- a record of an NSEC, or one beside it
  given_of : (given : List Record) (ns : List NsecState) (n : NsecState) → Contains ns n → (r : Record) → Contains (owned_records z n.owner 47) r → Given (nsec_records_of z given ns) r
  given_of given [] n c r o = absurd (omega (arith, c.1))
  given_of given (m ∷ ns) n (zero, l, e) r o = by_given (list_any (is_beside r) given) refl
    where
      by_given : (b : Bool) → list_any (is_beside r) given ≡ b → Given (nsec_records_of z (given ++ others given (owned_records z m.owner 47)) ns) r
      by_given true h =
          let f = found (is_beside r) given h in
          record { one = f.one; there = stays (given ++ others given (owned_records z m.owner 47)) ns f.one (in_left given (others given (owned_records z m.owner 47)) f.one f.there); beside = f.passes }
      by_given false h =
          let k : Contains (owned_records z m.owner 47) r = subst (λ (x : NsecState). Contains (owned_records z x.owner 47) r) (sym e) o in
          record {
            one = r;
            there = stays (given ++ others given (owned_records z m.owner 47)) ns r
                (in_right given (others given (owned_records z m.owner 47)) r (in_filter (λ (x : Record). not (list_any (is_beside x) given)) (owned_records z m.owner 47) r k (ap not h)));
            beside = itself r;
          }
  given_of given (m ∷ ns) n (suc k, l, e) r o = given_of (given ++ others given (owned_records z m.owner 47)) ns n (k, omega (arith, l), e) r o

  -- an NSEC record of the zone is among those of its owner
  owned : (r : Record) (name : List (List ℕ)) → Contains z.records r → is_of 47 r ≡ true → name ≡ r.owner → ends_name name z.apex ≡ true → asked_region z 43 name ≡ Within → Contains (owned_records z name 47) r
  owned r name c t o i g =
      let own : is_asked name 47 r ≡ true = and_from (same_name r.owner name) (is_of 47 r) (subst (λ (x : List (List ℕ)). same_name r.owner x ≡ true) (sym o) (same_itself r.owner)) t in
      subst (λ (b : Bool). Contains (if b then if_within (asked_region z 43 name) (asked_records z name 47) else []) r) (sym i)
      (subst (λ (x : Region). Contains (if_within x (asked_records z name 47)) r) (sym g) (in_filter (is_asked name 47) z.records r c own))

-- ---- what is chosen is a zone's

last_in : (n : NsecState) (ns : List NsecState) → Contains (n ∷ ns) (last_or n ns)
last_in n [] = (zero, omega arith, refl)
last_in n (m ∷ ns) = let i = last_in m ns in (suc i.0, omega (arith, i.1), i.2)

nearest_in : (fs : List NsecState) (n : NsecState) → Contains (last_of fs) n → Contains fs n
nearest_in [] n c = absurd (omega (arith, c.1))
nearest_in (m ∷ ms) n (zero, l, e) = subst (λ (x : NsecState). Contains (m ∷ ms) x) e (last_in m ms)
nearest_in (m ∷ ms) n (suc k, l, e) = absurd (omega (arith, l))

chosen_in : (s : SignedState) (q : Question) (answers : List Record) (n : NsecState) → Contains (chosen s q answers) n → Contains s.nsecs n
chosen_in s q answers n c =
    let f = from_flat (nearest s.nsecs) (denied_names s.zone q answers) n c in
    (from_filter (is_up_to f.0) s.nsecs n (nearest_in (filter (is_up_to f.0) s.nsecs) n f.2)).0

pub chosen_are_given : ChosenAreGiven
chosen_are_given s q answers w sorted chain reached n c =
    let z = s.zone in
    let ns = chosen s q answers in
    let there = chosen_in s q answers n c in
    let r = read_from (nsec_records z.records) chain.read chain.nsecs n (Contains-permutation s.nsecs chain.read n (IsPermutation-sym chain.read s.nsecs chain.order) there) in
    let k = from_filter (is_of 47) z.records r.one r.there in
    let inside : ends_name n.owner z.apex ≡ true = subst (λ (x : List (List ℕ)). ends_name x z.apex ≡ true) (sym r.says.owner) (within_all z.apex z.records (starts z w.zone).within r.one k.0) in
    let g = given_of z [] ns n c r.one (owned z r.one n.owner k.0 k.1 r.says.owner inside (reached n there)) in
    let v = all_zones z [] ns (λ x e. absurd (omega (arith, e.1))) g.one g.there in
    let m = says_from (nsec_records z.records) chain.read chain.nsecs g.one (in_filter (is_of 47) z.records g.one v.0 v.1) in
    let b : same_name r.one.owner g.one.owner ≡ true = (and_parts (same_name r.one.owner g.one.owner) (nat_eq (data_type r.one.rdata) (data_type g.one.rdata)) g.beside).0 in
    let same : same_name m.one.owner n.owner ≡ true =
    subst (λ (x : List (List ℕ)). same_name x n.owner ≡ true) (sym m.says.owner) (subst (λ (x : List (List ℕ)). same_name g.one.owner x ≡ true) (sym r.says.owner) (same_back r.one.owner g.one.owner b)) in
    let e : m.one ≡ n = sole s.nsecs sorted m.one n (Contains-permutation chain.read s.nsecs m.one chain.order m.there) there same in
    (g.one, g.there, subst (IsNsec g.one) e m.says)
