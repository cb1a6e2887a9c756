use Rattle.dns_base.specs.Replaced.{behind_records}
use Rattle.dns_base.proofs.Sieved.{sieved, sieving_room, sieving_goes_on}
use Rattle.dns_base.proofs.replace.sift.Goals as goal

pub move_back-requires-clause-within : goal.move_back-requires-clause-within
move_back-requires-clause-within c =
    let o = c.args.message.now in
    let r = c.kept_at-record.result in
    (sieving_room o c.records.message c.args.rtype (behind_records o c.args.count c.args.start) (sieved o c.args.rtype c.args.count c.args.start) c.args.start c.records.at c.records.put c.records.left r.many r.size r.end
    c.records.invariant c.records-test.true c.kept_at-record.ensures).0

pub records-preserved : goal.records-preserved
records-preserved c =
    let o = c.args.message.now in
    let r = c.kept_at-record.result in
    sieving_goes_on o c.records.message c.move_back.new.message c.args.rtype (behind_records o c.args.count c.args.start) (sieved o c.args.rtype c.args.count c.args.start) c.args.start c.records.at c.records.put c.records.left r.many r.size r.end
    c.records.invariant c.records-test.true c.kept_at-record.ensures c.move_back.ensures.moved c.move_back.ensures.behind c.move_back.ensures.len
