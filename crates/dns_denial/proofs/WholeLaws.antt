-- A chain that passes the checks is whole, and a whole one passes them.
use Rattle.std.proofs.Common.{◌≡◌, ℕ, ◌+◌, ◌<◌, Bool, true, false, List, [], length, nat_eq, Some, None, refl, sym, subst, ◌∙◌, arith}
use Rattle.std.specs.Prelude.{◌&&◌, ◌||◌, not, Result, Ok, Err, MatchResult}
use Rattle.std.specs.Cmp.{both_ways}
use Rattle.std.specs.List.{Contains, list_all, list_any, position}
use Rattle.std.proofs.lemmas.Bool.{true≢false, and_from, and_parts, false_from_ne_true, not-true, not_from_false, or_from, or_parts}
use Rattle.std.proofs.lemmas.Bool.Decides.{nat_tests}
use Rattle.dns_name.specs.Canonical.{same_name}
use Rattle.dns_base.specs.Records.{data_type}
use Rattle.dns_message.specs.declared.record.Record.{Record}
use Rattle.dns_zone.specs.Cuts.{is_cut_off}
use Rattle.dns_zone.specs.Owned.{ZoneState, is_of, is_owned}
use Rattle.dns_denial.specs.Nsecs.{AreSorted, NsecState, is_before, lists}
use Rattle.dns_denial.specs.Validation.{matches}
use Rattle.dns_denial.specs.Chains.{IsChained, IsDeniable, IsWhole, has_type, is_below_cut, is_record_at, is_deniable, must_have}
use Rattle.dns_denial.specs.Checks.{AreLinked, Breaks, IsUnlinked, WholeChainsBreakNowhere, is_there, is_to_list, is_unfounded, is_unlisted, lists_record, owner_behind}
use Rattle.dns_denial.specs.Denials.{AllBehind, IsLast}
use Rattle.dns_denial.specs.declared.chain_error.ChainError.{ChainError}
use Rattle.dns_denial.specs.declared.chain_error.ChainError.TheVariants.{Unlisted, Unfounded, Unlinked, OutOfMemory as NoMemory}
use Rattle.dns_denial.proofs.LinkLaws.{all_linked, next_later, next_must, none_between, one_owner}
use Rattle.dns_denial.proofs.ListLaws.{all_of, each_of, found, no_place, present, some_place}
use Rattle.dns_denial.proofs.NameLaws.{same_back, same_trans}
use Rattle.dns_denial.proofs.OrderLaws.{before_right, same_upto, upto_both}
use Rattle.dns_denial.proofs.SameLaws.{must_as, type_as}
use Rattle.dns_denial.proofs.StartLaws.{HasStart, starts}

told_true : (t : ℕ) → IsDeniable t → is_deniable t ≡ true
told_true t h = not_from_false (nat_eq t 46 || nat_eq t 47) (or_from (nat_eq t 46) (nat_eq t 47) h.0 h.1)

true_told : (t : ℕ) → is_deniable t ≡ true → IsDeniable t
true_told t h = let p = or_parts (nat_eq t 46) (nat_eq t 47) (not-true (nat_eq t 46 || nat_eq t 47) h) in (p.0, p.1)

eq_of : (a b : ℕ) → nat_eq a b ≡ true → a ≡ b
eq_of a b h = grind (arith, nat_tests)

first_of_or : (a b : Bool) → (not a || b) ≡ true → a ≡ true → b ≡ true
first_of_or true b h k = h
first_of_or false b h k = absurd (true≢false (sym k))

or_of : (a b : Bool) → (a ≡ true → b ≡ true) → (not a || b) ≡ true
or_of true b h = h refl
or_of false b h = refl

-- ---- a record and the NSEC of its owner

module _ (z : ZoneState) (ns : List NsecState) (sorted : AreSorted ns) (r : Record) where
  -- one NSEC of the chain alone can list it: the last that isn't after its owner
  pub listed_by : (n : NsecState) → IsLast ns r.owner n → list_any (lists_record z r) ns ≡ lists_record z r n
  listed_by n l = both_ways (list_any (lists_record z r) ns) (lists_record z r n) there (present (lists_record z r) ns n l.one)
    where
      there : list_any (lists_record z r) ns ≡ true → lists_record z r n ≡ true
      there h =
          let f = found (lists_record z r) ns h in
          let p = and_parts (matches r.owner f.one) (not (is_to_list z r) || lists f.one (data_type r.rdata)) f.passes in
          let k : is_before n.owner f.one.owner ≡ false = l.last f.one f.there (same_upto r.owner f.one.owner (same_back f.one.owner r.owner p.0)) in
          let e : same_name n.owner r.owner ≡ true = upto_both n.owner r.owner (sym (before_right f.one.owner r.owner n.owner p.0) ∙ k) l.upto in
          let q : f.one ≡ n = one_owner ns sorted f.one n f.there l.one (same_trans f.one.owner r.owner n.owner p.0 (same_back n.owner r.owner e)) in
          subst (λ (m : NsecState). lists_record z r m ≡ true) q f.passes

  pub listed_none : AllBehind ns r.owner → list_any (lists_record z r) ns ≡ false
  listed_none h = false_from_ne_true (list_any (lists_record z r) ns) (λ k.
      let f = found (lists_record z r) ns k in
      let p = and_parts (matches r.owner f.one) (not (is_to_list z r) || lists f.one (data_type r.rdata)) f.passes in
      true≢false (sym (h f.one f.there) ∙ same_upto r.owner f.one.owner (same_back f.one.owner r.owner p.0)))

-- ---- the checks together

pub whole_by : (z : ZoneState) (ns : List NsecState) → HasStart z → AreSorted ns → position (is_unlisted z ns) z.records ≡ None → position (is_unfounded z) ns ≡ None → AreLinked z.apex ns (length ns) → IsChained z ns
whole_by z ns start sorted a b linked =
    let none = no_place (is_unlisted z ns) z.records a in
    let founded : (n : NsecState) → Contains ns n → (must_have z n.owner && list_all (is_there z n) n.types) ≡ true = λ n c.
    not-false-of (must_have z n.owner && list_all (is_there z n) n.types) (false_from_ne_true (is_unfounded z n) (λ k. true≢false (sym (present (is_unfounded z) ns n c k) ∙ no_place (is_unfounded z) ns b))) in
    let owed : (n : NsecState) → Contains ns n → must_have z n.owner ≡ true = λ n c. (and_parts (must_have z n.owner) (list_all (is_there z n) n.types) (founded n c)).0 in
    let listed : (r : Record) → Contains z.records r → must_have z r.owner ≡ true → list_any (lists_record z r) ns ≡ true = λ r c m.
    unless (must_have z r.owner) (list_any (lists_record z r) ns) m (false_from_ne_true (is_unlisted z ns r) (λ k. true≢false (sym (present (is_unlisted z ns) z.records r c k) ∙ none))) in
    let held : (name : List (List ℕ)) → must_have z name ≡ true → list_any (matches name) ns ≡ true = λ name h.
    let f = found (is_owned name) z.records (and_parts (list_any (is_owned name) z.records) (not (is_below_cut z name)) h).0 in
    let g = found (lists_record z f.one) ns (listed f.one f.there (must_as z name f.one.owner (same_back f.one.owner name f.passes) h)) in
    let q = and_parts (matches f.one.owner g.one) (not (is_to_list z f.one) || lists g.one (data_type f.one.rdata)) g.passes in
    present (matches name) ns g.one g.there (same_trans g.one.owner f.one.owner name q.0 f.passes) in
    let there : (n : NsecState) → Contains ns n → (t : ℕ) → IsDeniable t → lists n t ≡ true → has_type z n.owner t ≡ true = λ n c t k h.
    let f = found (nat_eq t) n.types h in
    let e : t ≡ f.one = eq_of t f.one f.passes in
    let o = (and_parts (must_have z n.owner) (list_all (is_there z n) n.types) (founded n c)).1 in
    first_of_or (is_deniable t) (has_type z n.owner t) (subst (λ (u : ℕ). is_there z n u ≡ true) (sym e) (each_of (is_there z n) n.types o f.one f.there)) (told_true t k) in
    let back : (n : NsecState) → Contains ns n → (t : ℕ) → IsDeniable t → has_type z n.owner t ≡ true → lists n t ≡ true = λ n c t k h.
    let f = found (is_record_at n.owner t) z.records (and_parts (list_any (is_record_at n.owner t) z.records) (not (is_cut_off z n.owner) || (nat_eq t 2 || nat_eq t 43)) h).0 in
    let q = and_parts (is_owned n.owner f.one) (is_of t f.one) f.passes in
    let e : data_type f.one.rdata ≡ t = eq_of (data_type f.one.rdata) t q.1 in
    let own : same_name n.owner f.one.owner ≡ true = same_back f.one.owner n.owner q.0 in
    let g = found (lists_record z f.one) ns (listed f.one f.there (must_as z n.owner f.one.owner own (owed n c))) in
    let p = and_parts (matches f.one.owner g.one) (not (is_to_list z f.one) || lists g.one (data_type f.one.rdata)) g.passes in
    let same : g.one ≡ n = one_owner ns sorted g.one n g.there c (same_trans g.one.owner f.one.owner n.owner p.0 q.0) in
    let deniable_type : is_deniable (data_type f.one.rdata) ≡ true = subst (λ (u : ℕ). is_deniable u ≡ true) (sym e) (told_true t k) in
    let has : has_type z f.one.owner (data_type f.one.rdata) ≡ true = subst (λ (u : ℕ). has_type z f.one.owner u ≡ true) (sym e) (type_as z n.owner f.one.owner t own h) in
    let l : lists g.one (data_type f.one.rdata) ≡ true = first_of_or (is_to_list z f.one) (lists g.one (data_type f.one.rdata)) p.1 (and_from (is_deniable (data_type f.one.rdata)) (has_type z f.one.owner (data_type f.one.rdata)) deniable_type has) in
    subst (λ (u : ℕ). lists n u ≡ true) e (subst (λ (m : NsecState). lists m (data_type f.one.rdata) ≡ true) same l) in
    record {
      held = held;
      owed = owed;
      next = next_must z ns start sorted linked owed;
      later = next_later z ns start sorted linked owed;
      gap = none_between z ns start sorted linked owed held;
      types = λ n c t k. both_ways (lists n t) (has_type z n.owner t) (there n c t k) (back n c t k);
    }
  where
    not-false-of : (b : Bool) → not b ≡ false → b ≡ true
    not-false-of true h = refl
    not-false-of false h = absurd (true≢false h)

    unless : (m l : Bool) → m ≡ true → (m && not l) ≡ false → l ≡ true
    unless true true m h = refl
    unless true false m h = absurd (true≢false h)
    unless false l m h = absurd (true≢false (sym m))

-- ---- a whole chain breaks nowhere

module _ (z : ZoneState) (ns : List NsecState) (sorted : AreSorted ns) (w : IsWhole z ns) where
  all_there : (n : NsecState) → Contains ns n → list_all (is_there z n) n.types ≡ true
  all_there n c = all_of (is_there z n) n.types (λ t d. or_of (is_deniable t) (has_type z n.owner t) (λ k. sym (w.chain.types n c t (true_told t k)) ∙ present (nat_eq t) n.types t d (same t)))
    where
      same : (t : ℕ) → nat_eq t t ≡ true
      same t = grind (arith, nat_tests)

  all_listed : (r : Record) → must_have z r.owner ≡ true → list_any (lists_record z r) ns ≡ true
  all_listed r m =
      let f = found (matches r.owner) ns (w.chain.held r.owner m) in
      let t = data_type r.rdata in
      present (lists_record z r) ns f.one f.there
      (and_from (matches r.owner f.one) (not (is_to_list z r) || lists f.one t) f.passes
      (or_of (is_to_list z r) (lists f.one t) (λ k.
      let p = and_parts (is_deniable t) (has_type z r.owner t) k in
      w.chain.types f.one f.there t (true_told t p.0) ∙ type_as z r.owner f.one.owner t (same_back f.one.owner r.owner f.passes) p.1)))

  unbroken : (e : ChainError) → Breaks z ns e → e ≡ NoMemory
  unbroken (Unlisted i) h =
      let f = found (is_unlisted z ns) z.records (some_place (is_unlisted z ns) i z.records h) in
      let p = and_parts (must_have z f.one.owner) (not (list_any (lists_record z f.one) ns)) f.passes in
      absurd (true≢false (sym (all_listed f.one p.0) ∙ not-true (list_any (lists_record z f.one) ns) p.1))
  unbroken (Unfounded i) h =
      let f = found (is_unfounded z) ns (some_place (is_unfounded z) i ns h.1) in
      absurd (true≢false (sym (and_from (must_have z f.one.owner) (list_all (is_there z f.one) f.one.types) (w.chain.owed f.one f.there) (all_there f.one f.there)) ∙ not-true (must_have z f.one.owner && list_all (is_there z f.one) f.one.types) f.passes))
  unbroken (Unlinked i) h =
      let d : NsecState = record { owner = []; next = []; types = [] } in
      absurd (true≢false (sym (all_linked z ns (starts z w.zone) sorted w.chain i d h.2.within h.2.within) ∙ h.2.apart d))
  unbroken NoMemory h = refl

pub break_nowhere : WholeChainsBreakNowhere
break_nowhere z ns e sorted w h = unbroken z ns sorted w e h
