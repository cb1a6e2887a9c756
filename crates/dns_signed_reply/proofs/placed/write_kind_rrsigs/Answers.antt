use Rattle.std.proofs.Common.{◌≡◌, List, ◌++◌, map, Some, None, ap, sym, ◌∙◌}
use Rattle.dns_base.specs.Records.{record_of}
use Rattle.dns_message.specs.declared.record.Record.{Record}
use Rattle.dns_zone.specs.Places.{at_places}
use Rattle.dns_zone_tree.proofs.KeptLaws.{on_ok}
use Rattle.dns_zone_tree.specs.Kinds.{kind_places, places_of}
use Rattle.dns_zone_tree.specs.declared.kinds.TypedPlace.{TypedPlace}
use Rattle.dns_name_server.specs.Steps.{head_of}
use Rattle.dns_signed_reply.specs.DirectReplies.{covering}
use Rattle.dns_signed_reply.proofs.AbsentLaws.{first_none, first_some}
use Rattle.dns_signed_reply.proofs.LoopLaws.{put_none}
use Rattle.dns_signed_reply.proofs.placed.write_kind_rrsigs.Goals as goal

pub write_all_placed-requires : goal.write_all_placed-requires
write_all_placed-requires c = c.records-records.ensures.lawful

pub returns-in-Some : goal.returns-in-Some
returns-in-Some c =
    let z = c.args.zone.now in
    let m = c.args.kinds.now in
    let r = c.in-Some.first.now in
    let h : Some r ≡ head_of (at_places z.records (kind_places c.args.rtype m)) =
    c.in-Some.ensures
    ∙ (ap (λ (rs : List Record). head_of (at_places rs (places_of c.args.rtype c.as_slice-places.result.now))) c.records-records.ensures.value
    ∙ ap (λ (ks : List TypedPlace). head_of (at_places z.records (places_of c.args.rtype ks))) c.as_slice-places.ensures) in
    let e : at_places c.records-records.result.now (places_of 46 c.as_slice-places.result.now) ≡ at_places z.records (kind_places 46 m) =
    ap (λ (rs : List Record). at_places rs (places_of 46 c.as_slice-places.result.now)) c.records-records.ensures.value ∙ ap (λ (ks : List TypedPlace). at_places z.records (places_of 46 ks)) c.as_slice-places.ensures in
    on_ok c.write_all_placed.result c.write_all_placed.ensures
    (λ f. f ∙ ap (λ (l : List Record). c.args.into.now ++ map record_of l) (ap (covering r) e ∙ sym (first_some (at_places z.records (kind_places c.args.rtype m)) (at_places z.records (kind_places 46 m)) r h)))

pub returns-in-None : goal.returns-in-None
returns-in-None c =
    let z = c.args.zone.now in
    let m = c.args.kinds.now in
    let h : None ≡ head_of (at_places z.records (kind_places c.args.rtype m)) =
    c.in-None.ensures
    ∙ (ap (λ (rs : List Record). head_of (at_places rs (places_of c.args.rtype c.as_slice-places.result.now))) c.records-records.ensures.value
    ∙ ap (λ (ks : List TypedPlace). head_of (at_places z.records (places_of c.args.rtype ks))) c.as_slice-places.ensures) in
    put_none _ c.args.into.now (ap (map record_of) (first_none (at_places z.records (kind_places c.args.rtype m)) (at_places z.records (kind_places 46 m)) h))
