use Rattle.dns_route.specs.Turns.{turned_over}
use Rattle.dns_forward.specs.Forwarded.{forwarded}
use Rattle.dns_forward.proofs.laws.forwarded_replies_respond.Goals as goal

pub returns : goal.returns
returns c = λ us settings verdict request k. c.wrapped_replies_respond.ensures settings (turned_over (forwarded us)) verdict request k
