use Rattle.std.proofs.Common.{map, append-nil, refl, sym, arith}
use Rattle.std.proofs.lemmas.Option.{slice_get_read}
use Rattle.dns_base.specs.Records.{record_of}
use Rattle.dns_zone.proofs.BuildLaws.{lawful_at}
use Rattle.dns_signed_reply.proofs.LoopLaws.{all_added, one_item, written_joined}
use Rattle.dns_signed_reply.proofs.reply.add_written.Goals as goal

pub push-requires : goal.push-requires
push-requires c =
    let r = c.record-item.result in
    lawful_at c.args.records.now c.each.record-index r c.requires (slice_get_read c.args.records.now _ c.each.record-index r refl c.each-test.true c.record-item.is)

pub each-init : goal.each-init
each-init c = sym (append-nil c.args.into.now)

pub each-preserved : goal.each-preserved
each-preserved c =
    one_item (map record_of) written_joined c.args.records.now c.each.record-index c.record-item.result c.args.into.now c.each.into c.push.new.self c.each-test.true c.record-item.is c.each.invariant c.in_ok-push.ensures.ok

pub returns : goal.returns
returns c = all_added (map record_of) c.args.records.now c.each.record-index c.args.into.now c.each.into (omega arith) c.each.invariant
