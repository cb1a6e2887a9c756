use Rattle.std.proofs.Common.{◌+◌, List, subst, sym}
use Rattle.std.specs.declared.vec.Vec.{Vec}
use Rattle.std.specs.declared.alloc.Global.{Global}
use Rattle.dns_message.specs.declared.record.Record.{Record}
use Rattle.dns_hashed_zone.specs.HashedStates.{AreEmpty, items_of}
use Rattle.dns_hashed_zone.proofs.GroupLaws.{empty_more}
use Rattle.dns_hashed_zone.proofs.groups.empty_groups.Goals as goal

pub each-preserved : goal.each-preserved
each-preserved c =
    subst (λ (vs : List (Vec Record Global)). AreEmpty (items_of vs) (c.each.made + 1)) (sym c.in_ok-push.ensures.items) (empty_more c.each.groups.items c.new.result c.each.made c.new.ensures.items c.each.invariant)
