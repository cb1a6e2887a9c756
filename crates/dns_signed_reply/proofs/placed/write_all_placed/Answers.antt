use Rattle.std.proofs.Common.{◌≡◌, List, ◌++◌, map, append-nil, ap, sym, ◌∙◌, arith}
use Rattle.std.specs.List.{filter}
use Rattle.dns_base.specs.Msg.{ResourceRecord}
use Rattle.dns_base.specs.Records.{data_type, record_of}
use Rattle.dns_message.specs.declared.record.Record.{Record}
use Rattle.dns_zone.specs.Places.{at_places}
use Rattle.dns_zone_tree.specs.Kinds.{places_of}
use Rattle.dns_zone_tree.specs.declared.kinds.TypedPlace.{TypedPlace}
use Rattle.dns_denial.specs.Signed.{is_signature}
use Rattle.dns_signed_reply.specs.DirectReplies.{covering}
use Rattle.dns_signed_reply.specs.SignedReplies.{timed}
use Rattle.dns_signed_reply.proofs.LoopLaws.{all_added, kept_joined, kinds_joined, one_more, written_joined}
use Rattle.dns_signed_reply.proofs.placed.write_all_placed.Goals as goal

-- the RRSIGs at places that cover the type of a record, in wire form
abbrev wired : List Record → Record → List TypedPlace → List ResourceRecord
wired rs r ks = map record_of (covering r (at_places rs (places_of 46 ks)))

wired_joined : (rs : List Record) (r : Record) (xs ys : List TypedPlace) → wired rs r (xs ++ ys) ≡ wired rs r xs ++ wired rs r ys
wired_joined rs r xs ys =
    ap (map record_of)
    (ap (λ (l : List Record). map (timed r) (filter (is_signature (data_type r.rdata)) l)) (kinds_joined rs 46 xs ys) ∙ kept_joined (timed r) (is_signature (data_type r.rdata)) (at_places rs (places_of 46 xs)) (at_places rs (places_of 46 ys)))
    ∙ written_joined (covering r (at_places rs (places_of 46 xs))) (covering r (at_places rs (places_of 46 ys)))

pub each-init : goal.each-init
each-init c = sym (append-nil c.args.into.now)

pub each-preserved : goal.each-preserved
each-preserved c =
    let rs = c.args.records.now in
    let r = c.args.signed.now in
    one_more (wired rs r) (wired_joined rs r) c.args.kinds.now c.each.kind-index _ c.args.into.now c.each.into c.write_placed.new.into c.each-test.true c.each.invariant c.in_ok-write_placed.ensures

pub returns : goal.returns
returns c = all_added (wired c.args.records.now c.args.signed.now) c.args.kinds.now c.each.kind-index c.args.into.now c.each.into (omega arith) c.each.invariant
