use Rattle.std.proofs.Common.{arith}
use Rattle.dns_hashed_zone.proofs.GroupLaws.{items_put}
use Rattle.dns_hashed_zone.proofs.groups.add_to.Goals as goal

pub returns : goal.returns
returns c =
    items_put c.args.groups.now.items c.args.place c.index_mut.result.now c.push.new.self c.args.resource (omega (arith, c.requires, c.args.groups.now.ok)) c.index_mut.ensures.value c.in_ok-push.ensures.items
