use Rattle.std.proofs.Common.{List, map, append-nil, sym, arith}
use Rattle.std.specs.List.{filter}
use Rattle.dns_base.specs.Records.{data_type}
use Rattle.dns_message.specs.declared.record.Record.{Record}
use Rattle.dns_denial.specs.Signed.{is_signature}
use Rattle.dns_signed_reply.specs.SignedReplies.{timed}
use Rattle.dns_signed_reply.proofs.LoopLaws.{all_added, kept_joined, one_item}
use Rattle.dns_signed_reply.proofs.rrsigs.add_all_covering.Goals as goal

pub each-init : goal.each-init
each-init c = sym (append-nil c.args.into.now.items)

pub each-preserved : goal.each-preserved
each-preserved c =
    let r = c.args.signed.now in
    one_item (λ (l : List Record). map (timed r) (filter (is_signature (data_type r.rdata)) l)) (kept_joined (timed r) (is_signature (data_type r.rdata))) c.args.signatures.now c.each.signature-index c.signature-item.result c.args.into.now.items c.each.into.items c.add_covering.new.into.items c.each-test.true c.signature-item.is c.each.invariant
    c.in_ok-add_covering.ensures

pub returns : goal.returns
returns c =
    let r = c.args.signed.now in
    all_added (λ (l : List Record). map (timed r) (filter (is_signature (data_type r.rdata)) l)) c.args.signatures.now c.each.signature-index c.args.into.now.items c.each.into.items (omega arith) c.each.invariant
