-- The NSECs that are chosen deny what is absent.
use Rattle.std.proofs.Common.{◌≡◌, ℕ, ◌≤◌, ◌<◌, Bool, true, false, List, [], ◌∷◌, length, drop, nat_eq, refl, ap, sym, subst, ◌∙◌, arith, inl, inr, length-append}
use Rattle.std.specs.Prelude.{◌&&◌, ◌||◌, ◌⊎◌, not, if◌then◌else◌}
use Rattle.std.specs.List.{Contains, list_any}
use Rattle.std.proofs.lemmas.Bool.{true≢false, and_from, and_left, and_parts, and_right, cases_Bool, false_from_ne_true, not-true, not_from_false, or_cases, or_from, or_left, or_right}
use Rattle.dns_name.specs.Canonical.{same_name}
use Rattle.dns_name.specs.Labels.{IsName, spell}
use Rattle.dns_message.specs.declared.record.Record.{Record}
use Rattle.dns_route.specs.Routes.{ends_name}
use Rattle.dns_zone.specs.Cuts.{delegates, is_cut_off}
use Rattle.dns_zone.specs.Owned.{ZoneState, is_of, is_owned}
use Rattle.dns_zone.specs.ZoneReply.{exists}
use Rattle.dns_denial.specs.Nsecs.{NsecState, is_before, lists}
use Rattle.dns_zone_tree.specs.Wildcards.{encloser, star, wildcard}
use Rattle.dns_denial.specs.Validation.{covers, denies_name, denies_type, is_delegation, lacks, matches, proves_of, shown_encloser, shown_wildcard, shows_empty}
use Rattle.dns_denial.specs.Chains.{IsDeniable, IsWhole, is_below_cut, is_record_at}
use Rattle.dns_denial.specs.Denials.{AllBehind, CanBeDenied, DsIsProvedAbsent, ExpansionsAreProved, HasNone, InsecureDelegationsAreProved, IsAnswered, IsLast, IsUnsigned, NameErrorsAreProved, NoDataIsProved, NoneBelow, WildcardNoDataIsProved, is_under_dname}
use Rattle.dns_denial.proofs.NameLaws.{ends_cons, ends_itself, ends_root, ends_short, ends_tail, ends_trans, same_back, same_ends, same_itself, same_length, same_trans}
use Rattle.dns_denial.proofs.OrderLaws.{before_right, ends_upto, same_upto, upto_both}
use Rattle.dns_denial.proofs.SameLaws.{record_as}
use Rattle.dns_denial.proofs.StartLaws.{HasStart, must_apex, starts}
use Rattle.dns_denial.proofs.WildLaws.{encloser_within, not_apex, wildcard_cut, wildcard_dname}
use Rattle.dns_denial.proofs.TypeLaws.{no_alias, no_soa, not_any, not_at}
use Rattle.dns_denial.proofs.ChainLaws.{answered_above, cut_by, last_covers, owner_exists, same_enclosers, shown}
use Rattle.dns_denial.proofs.ListLaws.{Found, found, present}

module _ (z : ZoneState) (ns : List NsecState) (w : IsWhole z ns) where
  start : HasStart z
  start = starts z w.zone

  -- a record of a type at the owner of an NSEC that lists it
  listed : (n : NsecState) (t : ℕ) → Contains ns n → IsDeniable t → lists n t ≡ true → Found (is_record_at n.owner t) z.records
  listed n t c k h =
      found (is_record_at n.owner t) z.records
      (and_parts (list_any (is_record_at n.owner t) z.records) (not (is_cut_off z n.owner) || (nat_eq t 2 || nat_eq t 43)) (sym (w.chain.types n c t k) ∙ h)).0

  -- a type of which a name has no records is not listed
  unlisted : (n : NsecState) (t : ℕ) → Contains ns n → IsDeniable t → list_any (is_record_at n.owner t) z.records ≡ false → lists n t ≡ false
  unlisted n t c k h = w.chain.types n c t k ∙ and_left (list_any (is_record_at n.owner t) z.records) (not (is_cut_off z n.owner) || (nat_eq t 2 || nat_eq t 43)) h

  -- the NSEC of the apex lists SOA
  apex_lists : (n : NsecState) → Contains ns n → same_name n.owner z.apex ≡ true → is_cut_off z n.owner ≡ false → lists n 6 ≡ true
  apex_lists n c e a =
      w.chain.types n c 6 (refl, refl)
      ∙ and_from (list_any (is_record_at n.owner 6) z.records) (not (is_cut_off z n.owner) || (nat_eq 6 2 || nat_eq 6 43))
      (record_as z z.apex n.owner 6 (same_back n.owner z.apex e) start.soa)
      (or_left (not (is_cut_off z n.owner)) (nat_eq 6 2 || nat_eq 6 43) (not_from_false (is_cut_off z n.owner) a))

  -- an NSEC above a name that is not cut off, or at it, is no delegation's
  no_delegation : (name : List (List ℕ)) (n : NsecState) → Contains ns n → is_cut_off z name ≡ false → ends_name name n.owner ≡ true → is_delegation n ≡ false
  no_delegation name n c a e = false_from_ne_true (is_delegation n) (λ h.
      let p = and_parts (lists n 2) (not (lists n 6)) h in
      let f = listed n 2 c (refl, refl) p.0 in
      let q = and_parts (is_owned n.owner f.one) (is_of 2 f.one) f.passes in
      by_apex f.one f.there q.1 q.0 (not-true (lists n 6) p.1) (cases_Bool (same_name f.one.owner z.apex)))
    where
      by_apex : (r : Record) → Contains z.records r → is_of 2 r ≡ true → same_name r.owner n.owner ≡ true → lists n 6 ≡ false → (same_name r.owner z.apex ≡ true) ⊎ (same_name r.owner z.apex ≡ false) → ⊥
      by_apex r t s o l (inl k) = true≢false (sym (apex_lists n c (same_trans n.owner r.owner z.apex (same_back r.owner n.owner o) k) (answered_above z name n.owner a e)) ∙ l)
      by_apex r t s o l (inr k) = true≢false (sym (cut_by z name r t s (ends_trans name n.owner r.owner e (same_ends n.owner r.owner (same_back r.owner n.owner o))) k) ∙ a)

  no_dname : (name : List (List ℕ)) (n : NsecState) → Contains ns n → is_under_dname z name ≡ false → ends_name name n.owner ≡ true → same_name n.owner name ≡ false → lists n 39 ≡ false
  no_dname name n c a e o = false_from_ne_true (lists n 39) (λ h.
      let f = listed n 39 c (refl, refl) h in
      let q = and_parts (is_owned n.owner f.one) (is_of 39 f.one) f.passes in
      let above : ends_name name f.one.owner ≡ true = ends_trans name n.owner f.one.owner e (same_ends n.owner f.one.owner (same_back f.one.owner n.owner q.0)) in
      let other : same_name f.one.owner name ≡ false = false_from_ne_true (same_name f.one.owner name) (λ k. true≢false (sym (same_trans n.owner f.one.owner name (same_back f.one.owner n.owner q.0) k) ∙ o)) in
      true≢false (sym (present (λ (r : Record). is_of 39 r && (ends_name name r.owner && not (same_name r.owner name))) z.records f.one f.there
      (and_from (is_of 39 f.one) (ends_name name f.one.owner && not (same_name f.one.owner name)) q.1 (and_from (ends_name name f.one.owner) (not (same_name f.one.owner name)) above (not_from_false (same_name f.one.owner name) other)))) ∙ a))

  -- an NSEC above a name proves something of it
  proving : (name : List (List ℕ)) (n : NsecState) → Contains ns n → IsAnswered z name → same_name n.owner name ≡ false → proves_of name n ≡ true
  proving name n c a o = not_from_false (ends_name name n.owner && (is_delegation n || lists n 39)) (false_from_ne_true (ends_name name n.owner && (is_delegation n || lists n 39)) (λ h.
      let p = and_parts (ends_name name n.owner) (is_delegation n || lists n 39) h in
      true≢false (sym p.1 ∙ or_from (is_delegation n) (lists n 39) (no_delegation name n c a.cut p.0) (no_dname name n c a.dname p.0 o))))

  -- a name that doesn't exist is no owner
  missing_other : (name : List (List ℕ)) (n : NsecState) → Contains ns n → exists z name ≡ false → same_name n.owner name ≡ false
  missing_other name n c e = false_from_ne_true (same_name n.owner name) (λ h. true≢false (sym (owner_exists z n.owner name (owned_at n c) (same_ends n.owner name h)) ∙ e))
    where
      owned_at : (m : NsecState) → Contains ns m → list_any (is_owned m.owner) z.records ≡ true
      owned_at m d = (and_parts (list_any (is_owned m.owner) z.records) (not (is_below_cut z m.owner)) (w.chain.owed m d)).0

  missing_covered : (name : List (List ℕ)) (n : NsecState) → IsLast ns name n → exists z name ≡ false → covers z.apex name n ≡ true
  missing_covered name n l e = last_covers z ns w.chain name n l (missing_other name n l.one e)

  pub denied : (name : List (List ℕ)) (n : NsecState) → IsLast ns name n → IsAnswered z name → exists z name ≡ false → denies_name z.apex name n ≡ true
  denied name n l a e =
      let below : ends_name n.next name ≡ false = false_from_ne_true (ends_name n.next name) (λ h.
      true≢false (sym (owner_exists z n.next name (and_parts (list_any (is_owned n.next) z.records) (not (is_below_cut z n.next)) (w.chain.next n l.one)).0 h) ∙ e)) in
      and_from (covers z.apex name n) (proves_of name n && not (ends_name n.next name)) (missing_covered name n l e)
      (and_from (proves_of name n) (not (ends_name n.next name)) (proving name n l.one a (missing_other name n l.one e)) (not_from_false (ends_name n.next name) below))

  pub wildcard_shown : (name : List (List ℕ)) (n : NsecState) → IsLast ns name n → is_cut_off z name ≡ false → exists z name ≡ false → shown_wildcard n name ≡ wildcard z name
  wildcard_shown name n l a e = ap (λ (ls : List (List ℕ)). star ∷ ls) (same_enclosers z ns w.chain name n l.one (missing_covered name n l e) a name (ends_itself name))

  -- ---- no data

  none_as : (a b : List (List ℕ)) (t : ℕ) → same_name a b ≡ true → list_any (is_record_at b t) z.records ≡ false → list_any (is_record_at a t) z.records ≡ false
  none_as a b t e h = false_from_ne_true (list_any (is_record_at a t) z.records) (λ k. true≢false (sym (record_as z a b t e k) ∙ h))

  lacking : (name : List (List ℕ)) (t : ℕ) (n : NsecState) → Contains ns n → same_name n.owner name ≡ true → is_cut_off z name ≡ false → HasNone z name t → CanBeDenied z name t → lacks t n ≡ true
  lacking name t n c e a h d =
      let own : list_any (is_owned name) z.records ≡ true =
      let f = found (is_owned n.owner) z.records (and_parts (list_any (is_owned n.owner) z.records) (not (is_below_cut z n.owner)) (w.chain.owed n c)).0 in
      present (is_owned name) z.records f.one f.there (same_trans f.one.owner n.owner name f.passes e) in
      let k : nat_eq t 255 ≡ false = not_any z name t own h.none in
      and_from (not (nat_eq t 255 || (lists n t || lists n 5))) (if nat_eq t 43 then not (lists n 6) else not (is_delegation n))
      (not_from_false (nat_eq t 255 || (lists n t || lists n 5)) (or_from (nat_eq t 255) (lists n t || lists n 5) k
      (or_from (lists n t) (lists n 5) (unlisted n t c d.deniable (none_as n.owner name t e (not_at z name t h.none))) (unlisted n 5 c (refl, refl) (none_as n.owner name 5 e (no_alias z name t h k))))))
      (by_ds (nat_eq t 43) refl)
    where
      second_false : (a b : Bool) → a ≡ true → (a && b) ≡ false → b ≡ false
      second_false true b p q = q
      second_false false b p q = absurd (true≢false (sym p))

      by_ds : (b : Bool) → nat_eq t 43 ≡ b → (if b then not (lists n 6) else not (is_delegation n)) ≡ true
      by_ds true f = not_from_false (lists n 6) (unlisted n 6 c (refl, refl) (none_as n.owner name 6 e (no_soa z start name (second_false (nat_eq t 43) (same_name name z.apex) f d.parent))))
      by_ds false f = not_from_false (is_delegation n) (no_delegation name n c a (same_ends name n.owner (same_back n.owner name e)))

  empty : (name : List (List ℕ)) (n : NsecState) → IsLast ns name n → IsAnswered z name → exists z name ≡ true → same_name n.owner name ≡ false → shows_empty z.apex name n ≡ true
  empty name n l a h o =
      let k = last_covers z ns w.chain name n l o in
      let s : (ends_name n.owner name || ends_name n.next name) ≡ true = shown z ns w.chain name name n l.one k a.cut (ends_itself name) ∙ h in
      and_from (covers z.apex name n) (proves_of name n && ends_name n.next name) k
      (and_from (proves_of name n) (ends_name n.next name) (proving name n l.one a o)
      (by_end (or_cases (ends_name n.owner name) (ends_name n.next name) s) (and_parts (is_before n.owner name) (is_before name n.next || same_name n.next z.apex) k).0))
    where
      by_end : (ends_name n.owner name ≡ true) ⊎ (ends_name n.next name ≡ true) → is_before n.owner name ≡ true → ends_name n.next name ≡ true
      by_end (inl e) f = absurd (true≢false (sym f ∙ ends_upto n.owner name e))
      by_end (inr e) f = e

  pub denied_type : (name : List (List ℕ)) (t : ℕ) (n : NsecState) → IsLast ns name n → IsAnswered z name → exists z name ≡ true → HasNone z name t → CanBeDenied z name t → denies_type z.apex name t n ≡ true
  denied_type name t n l a e h d = by_owner (cases_Bool (same_name n.owner name))
    where
      by_owner : (same_name n.owner name ≡ true) ⊎ (same_name n.owner name ≡ false) → denies_type z.apex name t n ≡ true
      by_owner (inl o) = or_left (matches name n && lacks t n) (shows_empty z.apex name n) (and_from (matches name n) (lacks t n) o (lacking name t n l.one o a.cut h d))
      by_owner (inr o) = or_right (matches name n && lacks t n) (shows_empty z.apex name n) (empty name n l a e o)

  -- ---- a delegation without DS

  cut_owner : (cut : List (List ℕ)) (n : NsecState) → IsUnsigned z cut → IsLast ns cut n → same_name n.owner cut ≡ true
  cut_owner cut n u l =
      let r = found (is_record_at cut 2) z.records u.servers in
      let own : list_any (is_owned cut) z.records ≡ true = present (is_owned cut) z.records r.one r.there (and_parts (is_owned cut r.one) (is_of 2 r.one) r.passes).0 in
      let f = found (matches cut) ns (w.chain.held cut (and_from (list_any (is_owned cut) z.records) (not (is_below_cut z cut)) own (not_from_false (is_below_cut z cut) u.first))) in
      let k : is_before n.owner f.one.owner ≡ false = l.last f.one f.there (same_upto cut f.one.owner (same_back f.one.owner cut f.passes)) in
      upto_both n.owner cut (sym (before_right f.one.owner cut n.owner f.passes) ∙ k) l.upto

  pub insecure : (cut : List (List ℕ)) (n : NsecState) → IsUnsigned z cut → IsLast ns cut n → (matches cut n && (is_delegation n && not (lists n 43))) ≡ true
  insecure cut n u l =
      let e = cut_owner cut n u l in
      let servers : lists n 2 ≡ true =
      w.chain.types n l.one 2 (refl, refl)
      ∙ and_from (list_any (is_record_at n.owner 2) z.records) (not (is_cut_off z n.owner) || (nat_eq 2 2 || nat_eq 2 43)) (record_as z cut n.owner 2 (same_back n.owner cut e) u.servers) (or_right (not (is_cut_off z n.owner)) (nat_eq 2 2 || nat_eq 2 43) refl) in
      let soa : lists n 6 ≡ false = unlisted n 6 l.one (refl, refl) (none_as n.owner cut 6 e (no_soa z start cut u.inner)) in
      let ds : lists n 43 ≡ false = unlisted n 43 l.one (refl, refl) (none_as n.owner cut 43 e u.unsigned) in
      and_from (matches cut n) (is_delegation n && not (lists n 43)) e
      (and_from (is_delegation n) (not (lists n 43)) (and_from (lists n 2) (not (lists n 6)) servers (not_from_false (lists n 6) soa)) (not_from_false (lists n 43) ds))

  pub no_ds : (cut : List (List ℕ)) (n : NsecState) → IsUnsigned z cut → list_any (is_record_at cut 5) z.records ≡ false → IsLast ns cut n → denies_type z.apex cut 43 n ≡ true
  no_ds cut n u a l =
      let e = cut_owner cut n u l in
      let none : (t : ℕ) → IsDeniable t → list_any (is_record_at cut t) z.records ≡ false → lists n t ≡ false = λ t k o. unlisted n t l.one k (none_as n.owner cut t e o) in
      or_left (matches cut n && lacks 43 n) (shows_empty z.apex cut n)
      (and_from (matches cut n) (lacks 43 n) e
      (and_from (not (nat_eq 43 255 || (lists n 43 || lists n 5))) (not (lists n 6))
      (not_from_false (nat_eq 43 255 || (lists n 43 || lists n 5)) (or_from (nat_eq 43 255) (lists n 43 || lists n 5) refl (or_from (lists n 43) (lists n 5) (none 43 (refl, refl) u.unsigned) (none 5 (refl, refl) a))))
      (not_from_false (lists n 6) (none 6 (refl, refl) (no_soa z start cut u.inner)))))

  -- ---- the wildcard of a name

  pub last_wildcard : (name : List (List ℕ)) (n m : NsecState) → IsLast ns name n → is_cut_off z name ≡ false → exists z name ≡ false → IsLast ns (shown_wildcard n name) m → IsLast ns (wildcard z name) m
  last_wildcard name n m l a e k = subst (λ (v : List (List ℕ)). IsLast ns v m) (wildcard_shown name n l a e) k

-- ---- if there is no NSEC, or no room for the wildcard

short_encloser : (z : ZoneState) (ls : List (List ℕ)) → length (spell (encloser z ls)) ≤ length (spell ls)
short_encloser z [] = omega arith
short_encloser z (l ∷ ls) = by_test (short_encloser z ls) (exists z (l ∷ ls))
  where
    by_test : length (spell (encloser z ls)) ≤ length (spell ls) → (b : Bool) → length (spell (if b then l ∷ ls else encloser z ls)) ≤ length (spell (l ∷ ls))
    by_test ih true = omega arith
    by_test ih false = omega (arith, ih, length-append l (spell ls))

shorter_encloser : (z : ZoneState) (name : List (List ℕ)) → 0 < length name → IsName name → exists z name ≡ false → length (spell (encloser z name)) ≤ 253
shorter_encloser z [] h n e = absurd (omega arith)
shorter_encloser z (l ∷ ls) h n e =
    let k : encloser z (l ∷ ls) ≡ encloser z ls = ap (λ (b : Bool). if b then l ∷ ls else encloser z ls) e in
    omega (arith, ap (λ (x : List (List ℕ)). length (spell x)) k, short_encloser z ls, length-append l (spell ls), n.room, n.labels.0)

root_exists : (z : ZoneState) (ns : List NsecState) → IsWhole z ns → (name : List (List ℕ)) → exists z name ≡ false → 0 < length name
root_exists z ns w [] e =
    let r = found (is_record_at z.apex 6) z.records (starts z w.zone).soa in
    absurd (true≢false (sym (present (λ (q : Record). ends_name q.owner []) z.records r.one r.there (ends_root r.one.owner)) ∙ e))
root_exists z ns w (l ∷ ls) e = omega arith

pub no_room : (z : ZoneState) (ns : List NsecState) (name : List (List ℕ)) (n : NsecState) → IsWhole z ns → IsLast ns name n → is_cut_off z name ≡ false → exists z name ≡ false → IsName name → 253 < length (spell (shown_encloser n name)) → ⊥
no_room z ns name n w l a e i h =
    let s : shown_encloser n name ≡ encloser z name = ap (drop 1) (wildcard_shown z ns w name n l a e) in
    absurd (omega (arith, h, ap (λ (x : List (List ℕ)). length (spell x)) s, shorter_encloser z name (root_exists z ns w name e) i e))

-- the first NSEC is not after a name in the zone
pub some_last : (z : ZoneState) (ns : List NsecState) (name : List (List ℕ)) → IsWhole z ns → ends_name name z.apex ≡ true → AllBehind ns name → ⊥
some_last z ns name w e h =
    let f = found (matches z.apex) ns (w.chain.held z.apex (must_apex z (starts z w.zone))) in
    true≢false (sym (h f.one f.there) ∙ (before_right f.one.owner z.apex name f.passes ∙ ends_upto name z.apex e))

pub some_wildcard : (z : ZoneState) (ns : List NsecState) (name : List (List ℕ)) (n : NsecState) → IsWhole z ns → ends_name name z.apex ≡ true → is_cut_off z name ≡ false → exists z name ≡ false → IsLast ns name n → AllBehind ns (shown_wildcard n name) → ⊥
some_wildcard z ns name n w i a e l h =
    let s = wildcard_shown z ns w name n l a e in
    some_last z ns (wildcard z name) w (ends_trans (wildcard z name) (encloser z name) z.apex (ends_tail star (encloser z name)) (encloser_within z (starts z w.zone) name i))
    (subst (λ (v : List (List ℕ)). AllBehind ns v) s h)

pub none_below : (z : ZoneState) (ns : List NsecState) (name : List (List ℕ)) (n : NsecState) → IsWhole z ns → ends_name name z.apex ≡ true → is_cut_off z name ≡ false → exists z name ≡ false → IsLast ns name n → NoneBelow ns n name → ⊥
none_below z ns name n w i a e l (inl h) = no_room z ns name n w l a e h.0 h.1
none_below z ns name n w i a e l (inr h) = some_wildcard z ns name n w i a e l h

-- ---- the laws

-- two NSECs prove what the first proves of the name and the second of the wildcard
two : (a b c d e : Bool) → a ≡ true → c ≡ true → ((a && (b || (c || false))) || ((d && e) || false)) ≡ true
two true true true d e p q = refl
two true false true d e p q = refl
two true b false d e p q = absurd (true≢false (sym q))
two false b c d e p q = absurd (true≢false (sym p))

pub name_errors : NameErrorsAreProved
name_errors ns name n m l k z w a e f =
    let s = wildcard_shown z ns w name n l a.cut e in
    let j = last_wildcard z ns w name n m l a.cut e k in
    let d : denies_name z.apex (shown_wildcard n name) m ≡ true =
    ap (λ (v : List (List ℕ)). denies_name z.apex v m) s ∙ denied z ns w (wildcard z name) m j (record { cut = wildcard_cut z (starts z w.zone) name a.cut; dname = wildcard_dname z (starts z w.zone) name a.dname e }) f in
    two (denies_name z.apex name n) (denies_name z.apex (shown_wildcard n name) n) (denies_name z.apex (shown_wildcard n name) m) (denies_name z.apex name m) (list_any (denies_name z.apex (shown_wildcard m name)) (n ∷ m ∷ [])) (denied z ns w name n l a e) d

pub no_data : NoDataIsProved
no_data ns name n l z t w a e h d = or_left (denies_type z.apex name t n) false (denied_type z ns w name t n l a e h d)

pub wildcard_no_data : WildcardNoDataIsProved
wildcard_no_data ns name n m l k z t w i a e f h o =
    let s = wildcard_shown z ns w name n l a.cut e in
    let j = last_wildcard z ns w name n m l a.cut e k in
    let b : IsAnswered z (wildcard z name) = record { cut = wildcard_cut z (starts z w.zone) name a.cut; dname = wildcard_dname z (starts z w.zone) name a.dname e } in
    let g : CanBeDenied z (wildcard z name) t = record { deniable = o; parent = and_right (nat_eq t 43) (same_name (wildcard z name) z.apex) (not_apex z (starts z w.zone) name i) } in
    let d : denies_type z.apex (shown_wildcard n name) t m ≡ true = ap (λ (v : List (List ℕ)). denies_type z.apex v t m) s ∙ denied_type z ns w (wildcard z name) t m j b f h g in
    two (denies_name z.apex name n) (denies_type z.apex (shown_wildcard n name) t n) (denies_type z.apex (shown_wildcard n name) t m) (denies_name z.apex name m) (list_any (denies_type z.apex (shown_wildcard m name) t) (n ∷ m ∷ [])) (denied z ns w name n l a e) d

pub expansions : ExpansionsAreProved
expansions ns name n l z w a e =
    or_left (denies_name z.apex name n && same_name (shown_wildcard n name) (wildcard z name)) false
    (and_from (denies_name z.apex name n) (same_name (shown_wildcard n name) (wildcard z name)) (denied z ns w name n l a e)
    (ap (λ (v : List (List ℕ)). same_name v (wildcard z name)) (wildcard_shown z ns w name n l a.cut e) ∙ same_itself (wildcard z name)))

pub insecure_delegations : InsecureDelegationsAreProved
insecure_delegations ns cut n l z w u = or_left (matches cut n && (is_delegation n && not (lists n 43))) false (insecure z ns w cut n u l)

pub ds_absent : DsIsProvedAbsent
ds_absent ns cut n l z w u a = or_left (denies_type z.apex cut 43 n) false (no_ds z ns w cut n u a l)
