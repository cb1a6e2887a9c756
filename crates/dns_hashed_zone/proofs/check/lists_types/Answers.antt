use Rattle.std.proofs.Common.{◌≡◌, ℕ, true, false, List, refl, ap, ◌∙◌}
use Rattle.std.specs.List.{list_all}
use Rattle.dns_base.specs.Records.{data_type}
use Rattle.dns_message.specs.declared.record.Record.{Record}
use Rattle.dns_zone.specs.Places.{at_places}
use Rattle.dns_zone_tree.specs.Kinds.{places_of}
use Rattle.dns_hashed_zone.specs.HashedChecks.{is_there3}
use Rattle.dns_hashed_zone.specs.Meetings.{is_type_listed}
use Rattle.dns_hashed_zone.proofs.TypeLaws3.{lists_by}
use Rattle.dns_hashed_zone.proofs.check.lists_types.Goals as goal

pub returns-then-not-are_there : goal.returns-then-not-are_there
returns-then-not-are_there c =
    let z = c.args.zone.now in
    let name = c.args.name.now in
    let n = c.args.nsec.now in
    let m = c.args.kinds.now in
    lists_by z name m c.requires n c.is_cut-cut.result c.is_cut-cut.ensures false (list_all (λ (r : Record). is_type_listed c.is_cut-cut.result n (data_type r.rdata)) (at_places z.records (places_of 255 m.places.items)))
    (c.if-not-are_there.ensures ∙ ap (list_all (is_there3 z name)) c.types.ensures) refl

pub returns : goal.returns
returns c =
    let z = c.args.zone.now in
    let name = c.args.name.now in
    let n = c.args.nsec.now in
    let m = c.args.kinds.now in
    let cut = c.is_cut-cut.result in
    let b : c.are_listed.result ≡ list_all (λ (r : Record). is_type_listed cut n (data_type r.rdata)) (at_places z.records (places_of 255 m.places.items)) =
    c.are_listed.ensures ∙ (λ i. list_all (λ (r : Record). is_type_listed cut n (data_type r.rdata)) (at_places (c.records.ensures.value i) (places_of 255 (c.as_slice.ensures i)))) in
    lists_by z name m c.requires n cut c.is_cut-cut.ensures true c.are_listed.result (c.if-not-are_there.ensures ∙ ap (list_all (is_there3 z name)) c.types.ensures) b
