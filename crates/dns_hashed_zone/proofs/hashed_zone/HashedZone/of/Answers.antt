use Rattle.std.proofs.Common.{◌≡◌, ℕ, ◌+◌, List, Err, length, ap, subst, sym, ◌∙◌, arith}
use Rattle.std.specs.Prelude.{not}
use Rattle.dns_message.specs.declared.record.Record.{Record}
use Rattle.dns_zone.specs.Owned.{AreLawful, ZoneState}
use Rattle.dns_zone_tree.specs.TreeErrors.{Makes, tree_error}
use Rattle.dns_nsec3_data.specs.Nsec3Data.{Fails3, IsHashedOf3}
use Rattle.dns_hashed_zone.specs.HashedStates.{is_hashed}
use Rattle.dns_hashed_zone.specs.MadeHashed.{named}
use Rattle.dns_hashed_zone.proofs.MadeLaws.{lawful_kept, made_by, parts_count}
use Rattle.dns_hashed_zone.proofs.OwnerLaws.{sized_of}
use Rattle.dns_hashed_zone.proofs.hashed_zone.HashedZone.of.Goals as goal

pub returns-in-Err : goal.returns-in-Err
returns-in-Err c = subst (λ (rs : List Record). Fails3 c.args.apex rs c.in-Err.error) c.as_slice.ensures.value c.in-Err.ensures

pub new-requires : goal.new-requires
new-requires c = subst AreLawful (sym c.in-Ok-parted.ensures.named_is) (lawful_kept (λ (r : Record). not (is_hashed r)) c.args.records.items c.requires)

pub chained-requires-clause-zone : goal.chained-requires-clause-zone
chained-requires-clause-zone c = ap (λ (z : ZoneState). tree_error z.apex z.records) c.in-Ok-new.ensures.1 ∙ c.in-Ok-new.ensures.0

pub chained-requires-clause-sized : goal.chained-requires-clause-sized
chained-requires-clause-sized c =
    let i = subst (λ (rs : List Record). IsHashedOf3 c.args.apex rs c.in-Ok.names.hashing c.in-Ok.names.chain) c.as_slice.ensures.value c.in-Ok.ensures in
    sized_of c.args.apex c.in-Ok.names.hashing c.args.records.items c.in-Ok.names.chain i.chain

pub chained-requires-clause-lawful : goal.chained-requires-clause-lawful
chained-requires-clause-lawful c = subst AreLawful (sym c.in-Ok-parted.ensures.hashed_is) (lawful_kept is_hashed c.args.records.items c.requires)

pub chained-requires-clause-count : goal.chained-requires-clause-count
chained-requires-clause-count c =
    let p = parts_count c.args.records.items in
    let z = ap (λ (y : ZoneState). length y.records) c.in-Ok-new.ensures.1 in
    let n = ap (λ (rs : List Record). length rs) c.in-Ok-parted.ensures.named_is in
    let h = ap (λ (rs : List Record). length rs) c.in-Ok-parted.ensures.hashed_is in
    omega (arith, p, z, n, h, c.len-count.ensures)

pub returns-in-Ok-new : goal.returns-in-Ok-new
returns-in-Ok-new c =
    let rs = c.args.records.items in
    let apex = c.args.apex in
    let names = c.in-Ok.names in
    let i = subst (λ (xs : List Record). IsHashedOf3 apex xs names.hashing names.chain) c.as_slice.ensures.value c.in-Ok.ensures in
    let e = c.in-Ok-new.ensures.1 ∙ ap (λ (xs : List Record). let z : ZoneState = record { apex = apex; records = xs } in z) c.in-Ok-parted.ensures.named_is in
    made_by (record { apex = apex; records = rs }) c.in-Ok-new.zone names c.in-Ok-parted.parts.hashed.items e c.in-Ok-parted.ensures.hashed_is i c.chained.result c.chained.ensures

pub returns-in-Err-new : goal.returns-in-Err-new
returns-in-Err-new c =
    subst (λ (xs : List Record). Makes (tree_error c.args.apex xs) (record { apex = c.args.apex; records = xs }) (Err c.in-Err-new.error)) c.in-Ok-parted.ensures.named_is c.in-Err-new.ensures
