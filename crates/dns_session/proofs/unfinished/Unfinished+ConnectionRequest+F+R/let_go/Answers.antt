use Rattle.std.proofs.Common.{refl}
use Rattle.dns_session.proofs.Rows.{lets_go}
use Rattle.dns_session.proofs.unfinished.Unfinished+ConnectionRequest+F+R.let_go.Goals as goal

pub returns : goal.returns
returns g c = lets_go c.args.self.now c.pass_before.new.self _ c.args.place c.requires c.in_ok-pass_before.ensures refl c.pop_front-done.ensures.rest refl
