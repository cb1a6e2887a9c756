use Rattle.std.proofs.Common.{[], ◌∷◌, ap, ◌∙◌}
use Rattle.dns_base.specs.Records.{data_type}
use Rattle.dns_message.specs.declared.record.Record.{Record}
use Rattle.dns_zone.specs.Places.{at_places}
use Rattle.dns_zone_tree.specs.Kinds.{places_of}
use Rattle.dns_hashed_zone.specs.Meetings.{is_type_listed}
use Rattle.dns_hashed_zone.proofs.TypeLaws3.{none_at, one_at}
use Rattle.dns_hashed_zone.proofs.check.is_listed.Goals as goal

pub returns-in-Some : goal.returns-in-Some
returns-in-Some c =
    let cut = c.args.cut in
    let n = c.args.nsec.now in
    one_at (λ (r : Record). is_type_listed cut n (data_type r.rdata)) (at_places c.args.records.now (places_of 255 (c.args.kind.now ∷ []))) c.in-Some.resource.now c.is_type_listed.result c.in-Some.ensures.value
    (c.is_type_listed.ensures ∙ ap (is_type_listed cut n) (c.to_int.ensures.value ∙ c.rtype.ensures))

pub returns-in-None : goal.returns-in-None
returns-in-None c = none_at (λ (r : Record). is_type_listed c.args.cut c.args.nsec.now (data_type r.rdata)) (at_places c.args.records.now (places_of 255 (c.args.kind.now ∷ []))) c.in-None.ensures.value
