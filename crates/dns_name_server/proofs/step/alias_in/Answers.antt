use Rattle.std.proofs.Common.{ℕ, List, ap, sym, ◌∙◌}
use Rattle.dns_message.specs.declared.record.Record.{Record}
use Rattle.dns_zone.specs.Places.{at_places}
use Rattle.dns_zone_tree.specs.Kinds.{places_of}
use Rattle.dns_zone_tree.specs.declared.kinds.TypedPlace.{TypedPlace}
use Rattle.dns_name_server.specs.Steps.{head_of}
use Rattle.dns_name_server.proofs.StepLaws.{alias_given, alias_not}
use Rattle.dns_name_server.proofs.step.alias_in.Goals as goal

pub returns-then-follows-clause-value : goal.returns-then-follows-clause-value
returns-then-follows-clause-value c =
    let z = c.args.zone.now in
    c.first_of.ensures.value
    ∙ (ap (λ (rs : List Record). head_of (at_places rs (places_of c.to_int.result c.as_slice.result.now))) c.records.ensures.value
    ∙ (ap (λ (ks : List TypedPlace). head_of (at_places z.records (places_of c.to_int.result ks))) c.as_slice.ensures
    ∙ (ap (λ (t : ℕ). head_of (at_places z.records (places_of t c.args.kinds.now.places.items))) c.to_int.ensures.value
    ∙ alias_given c.args.rtype _ (sym c.follows.ensures ∙ c.if-follows.true))))

pub returns-clause-value : goal.returns-clause-value
returns-clause-value c = alias_not c.args.rtype _ (sym c.follows.ensures ∙ c.if-follows.false)
