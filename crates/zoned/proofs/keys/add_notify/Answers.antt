use Rattle.std.proofs.Common.{◌≡◌}
use Rattle.zoned.specs.Keys.{IsOfPeer}
use Rattle.zoned.proofs.Judged.{added_judges}
use Rattle.zoned.proofs.keys.add_notify.Goals as goal

pub returns-clause-judged : goal.returns-clause-judged
returns-clause-judged c = λ wanted.
    added_judges (IsOfPeer c.args.keys.now c.args.peer.now) c.args.apex.now c.in_ok-allowed.allowed.items c.args.zones.now.items c.push_zone.new.zones.items c.in_ok-push_zone.ensures c.in_ok-allowed.ensures
