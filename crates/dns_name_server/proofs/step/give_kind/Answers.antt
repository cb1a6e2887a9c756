use Rattle.std.proofs.Common.{◌≡◌, List, ◌++◌, map, ap, ◌∙◌, arith}
use Rattle.dns_base.specs.Records.{record_of}
use Rattle.dns_message.specs.declared.record.Record.{Record}
use Rattle.dns_zone.specs.Places.{at_places}
use Rattle.dns_zone_tree.specs.Kinds.{kind_places, places_of}
use Rattle.dns_zone_tree.specs.Wildcards.{given_as}
use Rattle.dns_zone_tree.specs.declared.kinds.TypedPlace.{TypedPlace}
use Rattle.dns_name_server.proofs.StepLaws.{given_none, given_some}
use Rattle.dns_name_server.proofs.step.give_kind.Goals as goal

pub returns-then-end-start : goal.returns-then-end-start
returns-then-end-start c =
    let z = c.args.zone.now in
    let k = kind_places c.args.rtype c.args.kinds.now in
    let e : c.give.new.given ≡ c.args.given.now ++ map record_of (map (given_as c.args.name.now) (at_places z.records k)) =
    c.in_ok-give.ensures
    ∙ (ap (λ (rs : List Record). c.args.given.now ++ map record_of (map (given_as c.args.name.now) (at_places rs (places_of c.args.rtype c.as_slice.result.now)))) c.records.ensures.value
    ∙ ap (λ (ks : List TypedPlace). c.args.given.now ++ map record_of (map (given_as c.args.name.now) (at_places z.records (places_of c.args.rtype ks)))) c.as_slice.ensures) in
    given_none z c.args.given.now c.give.new.given (map (given_as c.args.name.now) (at_places z.records k)) e (omega arith)

pub returns : goal.returns
returns c =
    let z = c.args.zone.now in
    let k = kind_places c.args.rtype c.args.kinds.now in
    let e : c.give.new.given ≡ c.args.given.now ++ map record_of (map (given_as c.args.name.now) (at_places z.records k)) =
    c.in_ok-give.ensures
    ∙ (ap (λ (rs : List Record). c.args.given.now ++ map record_of (map (given_as c.args.name.now) (at_places rs (places_of c.args.rtype c.as_slice.result.now)))) c.records.ensures.value
    ∙ ap (λ (ks : List TypedPlace). c.args.given.now ++ map record_of (map (given_as c.args.name.now) (at_places z.records (places_of c.args.rtype ks)))) c.as_slice.ensures) in
    given_some z c.args.given.now c.give.new.given (map (given_as c.args.name.now) (at_places z.records k)) e (λ n. omega (arith, n))
