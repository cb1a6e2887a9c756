use Rattle.std.proofs.Common.{refl}
use Rattle.dns_session.proofs.Rows.{enters}
use Rattle.dns_session.proofs.unfinished.Unfinished.enter.Goals as goal

pub returns : goal.returns
returns g c = enters c.args.self.now _ c.args.kept refl c.in_ok-push_back.ensures.items refl
