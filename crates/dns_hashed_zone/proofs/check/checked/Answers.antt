use Rattle.std.proofs.Common.{◌≡◌, ℕ, Bool, false, List, None, length, map, refl, ap, sym, ◌∙◌, arith}
use Rattle.std.specs.Prelude.{Some}
use Rattle.std.specs.List.{list_any, position}
use Rattle.std.proofs.lemmas.List.{length-map, with_items_is}
use Rattle.std.proofs.lemmas.Simd.{splat_is_map}
use Rattle.dns_message.specs.declared.record.Record.{Record}
use Rattle.dns_denial.specs.Nsec3.{Nsec3State, is_matched}
use Rattle.dns_hashed_zone.specs.HashedChecks.{is_met, is_unfounded3, is_unlisted3}
use Rattle.dns_hashed_zone.proofs.ChainLaws3.{chained3}
use Rattle.dns_hashed_zone.proofs.RecordLaws.{unmet_is}
use Rattle.dns_hashed_zone.proofs.check.checked.Goals as goal

pub first_unlisted-requires-clause-none : goal.first_unlisted-requires-clause-none
first_unlisted-requires-clause-none c =
    c.as_mut_slice.ensures.value ∙ (c.in_ok-met.ensures.items_if_clones_equal (λ y h. h) ∙ splat_is_map c.args.nsecs.now (length c.args.nsecs.now) false refl)

pub first_unlisted-requires-clause-rooted : goal.first_unlisted-requires-clause-rooted
first_unlisted-requires-clause-rooted c = c.in_ok-rooted.ensures ∙ ap (is_matched c.args.hashing.now c.args.nsecs.now) (c.for_ref.ensures.value ∙ c.apex.ensures)

pub returns-in-Some : goal.returns-in-Some
returns-in-Some c = sym c.in_ok-unlisted.ensures.listed ∙ c.in-Some.is

pub returns-in-Some-first_unmet : goal.returns-in-Some-first_unmet
returns-in-Some-first_unmet c =
    let z = c.args.zone.now in
    let h = c.args.hashing.now in
    let ns = c.args.nsecs.now in
    let now = c.first_unlisted.new.met in
    let m : now ≡ map (λ (n : Nsec3State). list_any (λ (r : Record). is_met z h r n) z.records) ns = c.in_ok-unlisted.ensures.met c.in_default.is in
    let k : length now ≡ c.in_ok-met.met.len =
    omega (arith, ap length m, length-map ns (λ (n : Nsec3State). list_any (λ (r : Record). is_met z h r n) z.records), c.in_ok-met.ensures.len) in
    let e = c.as_slice.ensures.value ∙ (with_items_is c.in_ok-met.met now k ∙ m) in (
      record { listed = sym c.in_ok-unlisted.ensures.listed ∙ c.in_default.is },
      sym (unmet_is z h ns c.as_slice.result.now e) ∙ (sym c.first_unmet.ensures ∙ c.in-Some-first_unmet.is),
    )

pub returns-in-Some-first_unlinked : goal.returns-in-Some-first_unlinked
returns-in-Some-first_unlinked c =
    let z = c.args.zone.now in
    let h = c.args.hashing.now in
    let ns = c.args.nsecs.now in
    let now = c.first_unlisted.new.met in
    let m : now ≡ map (λ (n : Nsec3State). list_any (λ (r : Record). is_met z h r n) z.records) ns = c.in_ok-unlisted.ensures.met c.in_default.is in
    let k : length now ≡ c.in_ok-met.met.len =
    omega (arith, ap length m, length-map ns (λ (n : Nsec3State). list_any (λ (r : Record). is_met z h r n) z.records), c.in_ok-met.ensures.len) in
    let e = c.as_slice.ensures.value ∙ (with_items_is c.in_ok-met.met now k ∙ m) in (
      record {
        listed = record { listed = sym c.in_ok-unlisted.ensures.listed ∙ c.in_default.is };
        founded = sym (unmet_is z h ns c.as_slice.result.now e) ∙ (sym c.first_unmet.ensures ∙ c.in_default-first_unmet.is);
      },
      c.in-Some-first_unlinked.ensures,
    )

pub returns : goal.returns
returns c =
    let z = c.args.zone.now in
    let h = c.args.hashing.now in
    let ns = c.args.nsecs.now in
    let now = c.first_unlisted.new.met in
    let m : now ≡ map (λ (n : Nsec3State). list_any (λ (r : Record). is_met z h r n) z.records) ns = c.in_ok-unlisted.ensures.met c.in_default.is in
    let k : length now ≡ c.in_ok-met.met.len =
    omega (arith, ap length m, length-map ns (λ (n : Nsec3State). list_any (λ (r : Record). is_met z h r n) z.records), c.in_ok-met.ensures.len) in
    let e = c.as_slice.ensures.value ∙ (with_items_is c.in_ok-met.met now k ∙ m) in
    chained3 z h ns c.requires.zone c.requires.sorted (sym c.in_ok-unlisted.ensures.listed ∙ c.in_default.is)
    (sym (unmet_is z h ns c.as_slice.result.now e) ∙ (sym c.first_unmet.ensures ∙ c.in_default-first_unmet.is)) c.in-None.ensures
