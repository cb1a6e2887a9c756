use Rattle.dns_transfer.proofs.PackLaws.{packed_whole}
use Rattle.dns_transfer.proofs.bunches.Bunches.of.Goals as goal

pub returns : goal.returns
returns c =
    packed_whole c.args.records.now c.new-packing.result c.pack_soa.new.self c.pack_others.new.self c.pack_soa-2.new.self c.in_ok-bunches.bunches.items
    c.new-packing.ensures c.in_ok-pack_soa.ensures c.in_ok-pack_others.ensures c.in_ok-pack_soa-2.ensures c.in_ok-bunches.ensures
