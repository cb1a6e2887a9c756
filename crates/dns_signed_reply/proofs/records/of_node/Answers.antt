use Rattle.std.proofs.Common.{◌≡◌, List, ap, ◌∙◌}
use Rattle.dns_message.specs.declared.record.Record.{Record}
use Rattle.dns_zone.specs.Places.{at_places}
use Rattle.dns_zone_tree.specs.Kinds.{kind_places, places_of}
use Rattle.dns_zone_tree.specs.declared.kinds.TypedPlace.{TypedPlace}
use Rattle.dns_zone_tree.proofs.KeptLaws.{if_ok}
use Rattle.dns_signed_reply.proofs.records.of_node.Goals as goal

pub returns : goal.returns
returns c =
    let z = c.args.zone.now in
    let t = c.args.rtype in
    if_ok (λ v. v.items ≡ at_places c.records.result.now (places_of t c.as_slice.result.now)) (λ v. v.items ≡ at_places z.records (kind_places t c.args.kinds.now)) c.at_kinds.result c.at_kinds.ensures
    (λ v e. e
    ∙ (ap (λ (rs : List Record). at_places rs (places_of t c.as_slice.result.now)) c.records.ensures.value
    ∙ ap (λ (ks : List TypedPlace). at_places z.records (places_of t ks)) c.as_slice.ensures))
