use Rattle.std.proofs.Common.{List, ◌++◌, map, ap, ◌∙◌}
use Rattle.dns_base.specs.Records.{record_of}
use Rattle.dns_message.specs.declared.record.Record.{Record}
use Rattle.dns_zone.specs.Places.{at_places}
use Rattle.dns_zone_tree.specs.Kinds.{places_of}
use Rattle.dns_zone_tree.specs.declared.kinds.TypedPlace.{TypedPlace}
use Rattle.dns_zone_tree.proofs.KeptLaws.{on_ok}
use Rattle.dns_zone_tree.proofs.zone_tree.ZoneTree.write_kind.Goals as goal

pub returns : goal.returns
returns c =
    let z = c.args.self.now in
    let t = c.args.rtype in
    on_ok c.add_kinds.result c.add_kinds.ensures
    (λ e. e
    ∙ (ap (λ (rs : List Record). c.args.into.now ++ map record_of (at_places rs (places_of t c.as_slice.result.now))) c.records.ensures.value
    ∙ ap (λ (ks : List TypedPlace). c.args.into.now ++ map record_of (at_places z.records (places_of t ks))) c.as_slice.ensures))
