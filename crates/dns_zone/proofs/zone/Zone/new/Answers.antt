use Rattle.std.proofs.Common.{Err, ap, map, sym, subst, ◌∙◌}
use Rattle.std.specs.List.{AllByRecursion, filter}
use Rattle.dns_zone.specs.ZoneIndex.{KnowsPlaces}
use Rattle.dns_zone.specs.Owned.{HasNamedData, ZoneState, is_of}
use Rattle.dns_zone.specs.ZoneErrors.{Makes, zone_error}
use Rattle.dns_zone.specs.ZoneReply.{negative_soa}
use Rattle.dns_zone.proofs.ErrorLaws.{all_within, one_soa}
use Rattle.dns_zone.proofs.TypedLaws.{all_typed}
use Rattle.dns_zone.proofs.zone.Zone.new.Goals as goal

pub kept_beside-requires : goal.kept_beside-requires
kept_beside-requires c = one_soa c.args.apex c.as_slice-in-Ok.result.now (ap (zone_error c.args.apex) (c.as_slice-in-Ok.ensures.value ∙ sym c.as_slice.ensures.value) ∙ c.in-Ok.ensures.0)

pub returns-in-Err : goal.returns-in-Err
returns-in-Err c =
    let z : ZoneState = record { apex = c.args.apex; records = c.args.records.items } in
    subst (λ l. Makes (zone_error c.args.apex l) z (Err c.in-Err.error)) c.as_slice.ensures.value (c.in-Err.ensures z)

pub invariant_of-result : goal.invariant_of-result
invariant_of-result c = record {
  lawful = c.requires;
  typed = all_typed c.args.records.items c.requires (subst (AllByRecursion HasNamedData) c.as_slice.ensures.value c.in-Ok.ensures.2);
  within = all_within c.args.apex c.args.records.items (sym (ap (zone_error c.args.apex) c.as_slice.ensures.value) ∙ c.in-Ok.ensures.0);
  known = subst (KnowsPlaces c.in-Ok.names) c.as_slice.ensures.value c.in-Ok.ensures.1;
  soa = sym (ap (λ l. map negative_soa (filter (is_of 6) l)) c.as_slice-in-Ok.ensures.value) ∙ c.in-Ok-kept_beside.ensures.negative;
  path_is = c.in-Ok-kept_beside.ensures.path;
}
