-- What holds of a name holds of those that are the same up to ASCII case.
use Rattle.std.proofs.Common.{◌≡◌, ℕ, Bool, true, false, List, nat_eq, refl, sym, ◌∙◌}
use Rattle.std.specs.Prelude.{◌&&◌, ◌||◌, not}
use Rattle.std.specs.List.{list_any}
use Rattle.std.proofs.lemmas.Bool.{true≢false, and_from, and_parts, false_from_ne_true, not-true, not_from_false}
use Rattle.dns_name.specs.Canonical.{same_name}
use Rattle.dns_message.specs.declared.record.Record.{Record}
use Rattle.dns_route.specs.Routes.{ends_name}
use Rattle.dns_zone.specs.Cuts.{delegates, is_cut_off}
use Rattle.dns_zone.specs.Owned.{ZoneState, is_of, is_owned}
use Rattle.dns_denial.specs.Chains.{has_type, is_below_cut, is_record_at, must_have}
use Rattle.dns_denial.specs.Denials.{is_under_dname}
use Rattle.dns_denial.proofs.ChainLaws.{cut_by, cut_of}
use Rattle.dns_denial.proofs.ListLaws.{found, present}
use Rattle.dns_denial.proofs.NameLaws.{ends_trans, same_back, same_ends, same_trans}

module _ (z : ZoneState) (a b : List (List ℕ)) (e : same_name a b ≡ true) where
  pub owned_as : list_any (is_owned a) z.records ≡ true → list_any (is_owned b) z.records ≡ true
  owned_as h =
      let f = found (is_owned a) z.records h in
      present (is_owned b) z.records f.one f.there (same_trans f.one.owner a b f.passes e)

  pub below_as : is_below_cut z a ≡ true → is_below_cut z b ≡ true
  below_as h =
      let f = found (λ (r : Record). delegates z a r && not (same_name r.owner a)) z.records h in
      let p = and_parts (delegates z a f.one) (not (same_name f.one.owner a)) f.passes in
      let c = cut_of z a f.one p.0 in
      let o : same_name f.one.owner b ≡ false = false_from_ne_true (same_name f.one.owner b) (λ k. true≢false (sym (same_trans f.one.owner b a k (same_back a b e)) ∙ not-true (same_name f.one.owner a) p.1)) in
      present (λ (r : Record). delegates z b r && not (same_name r.owner b)) z.records f.one f.there
      (and_from (delegates z b f.one) (not (same_name f.one.owner b))
      (and_from (is_of 2 f.one) (ends_name b f.one.owner && not (same_name f.one.owner z.apex)) c.servers (and_from (ends_name b f.one.owner) (not (same_name f.one.owner z.apex)) (ends_trans b a f.one.owner (same_ends b a (same_back a b e)) c.above) (not_from_false (same_name f.one.owner z.apex) c.inner)))
      (not_from_false (same_name f.one.owner b) o))

pub must_as : (z : ZoneState) (a b : List (List ℕ)) → same_name a b ≡ true → must_have z a ≡ true → must_have z b ≡ true
must_as z a b e h =
    let p = and_parts (list_any (is_owned a) z.records) (not (is_below_cut z a)) h in
    let n : is_below_cut z b ≡ false = false_from_ne_true (is_below_cut z b) (λ k. true≢false (sym (below_as z b a (same_back a b e) k) ∙ not-true (is_below_cut z a) p.1)) in
    and_from (list_any (is_owned b) z.records) (not (is_below_cut z b)) (owned_as z a b e p.0) (not_from_false (is_below_cut z b) n)

pub cut_as : (z : ZoneState) (a b : List (List ℕ)) → same_name a b ≡ true → is_cut_off z a ≡ true → is_cut_off z b ≡ true
cut_as z a b e h =
    let f = found (delegates z a) z.records h in
    let c = cut_of z a f.one f.passes in
    cut_by z b f.one f.there c.servers (ends_trans b a f.one.owner (same_ends b a (same_back a b e)) c.above) c.inner

pub record_as : (z : ZoneState) (a b : List (List ℕ)) (t : ℕ) → same_name a b ≡ true → list_any (is_record_at a t) z.records ≡ true → list_any (is_record_at b t) z.records ≡ true
record_as z a b t e h =
    let f = found (is_record_at a t) z.records h in
    let p = and_parts (is_owned a f.one) (is_of t f.one) f.passes in
    present (is_record_at b t) z.records f.one f.there (and_from (is_owned b f.one) (is_of t f.one) (same_trans f.one.owner a b p.0 e) p.1)

open_as : (c d x : Bool) → (d ≡ true → c ≡ true) → (not c || x) ≡ true → (not d || x) ≡ true
open_as c false x h k = refl
open_as true true x h k = k
open_as false true x h k = absurd (true≢false (sym (h refl)))

pub type_as : (z : ZoneState) (a b : List (List ℕ)) (t : ℕ) → same_name a b ≡ true → has_type z a t ≡ true → has_type z b t ≡ true
type_as z a b t e h =
    let p = and_parts (list_any (is_record_at a t) z.records) (not (is_cut_off z a) || (nat_eq t 2 || nat_eq t 43)) h in
    and_from (list_any (is_record_at b t) z.records) (not (is_cut_off z b) || (nat_eq t 2 || nat_eq t 43)) (record_as z a b t e p.0)
    (open_as (is_cut_off z a) (is_cut_off z b) (nat_eq t 2 || nat_eq t 43) (cut_as z b a (same_back a b e)) p.1)

pub dname_as : (z : ZoneState) (a b : List (List ℕ)) → same_name a b ≡ true → is_under_dname z a ≡ true → is_under_dname z b ≡ true
dname_as z a b e h =
    let f = found (λ (r : Record). is_of 39 r && (ends_name a r.owner && not (same_name r.owner a))) z.records h in
    let p = and_parts (is_of 39 f.one) (ends_name a f.one.owner && not (same_name f.one.owner a)) f.passes in
    let q = and_parts (ends_name a f.one.owner) (not (same_name f.one.owner a)) p.1 in
    let o : same_name f.one.owner b ≡ false = false_from_ne_true (same_name f.one.owner b) (λ k. true≢false (sym (same_trans f.one.owner b a k (same_back a b e)) ∙ not-true (same_name f.one.owner a) q.1)) in
    present (λ (r : Record). is_of 39 r && (ends_name b r.owner && not (same_name r.owner b))) z.records f.one f.there
    (and_from (is_of 39 f.one) (ends_name b f.one.owner && not (same_name f.one.owner b)) p.0 (and_from (ends_name b f.one.owner) (not (same_name f.one.owner b)) (ends_trans b a f.one.owner (same_ends b a (same_back a b e)) q.0) (not_from_false (same_name f.one.owner b) o)))
