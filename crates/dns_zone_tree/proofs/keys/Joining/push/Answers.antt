use Rattle.std.proofs.Common.{sym, ◌∙◌}
use Rattle.dns_zone_tree.proofs.JoinLaws.{joining_other, joining_same}
use Rattle.dns_zone_tree.proofs.KeptLaws.{on_both}
use Rattle.dns_zone_tree.proofs.keys.Joining.push.Goals as goal

pub returns-then-is_last : goal.returns-then-is_last
returns-then-is_last c = λ all i.
    on_both c.close.result c.close.ensures.nodes c.close.ensures.pending
    (λ m e. joining_other c.args.octets.now all c.args.behind.now c.args.self.now.nodes.items c.args.self.now.pending c.push.new.self c.args.first.now c.in_ok-push.ensures i c.close.new.self.nodes.items c.close.new.self.pending.places.items m e
    (sym c.is_last.ensures ∙ c.if-is_last.true))

pub returns : goal.returns
returns c = λ all i.
    joining_same c.args.octets.now all c.args.behind.now c.args.self.now.nodes.items c.args.self.now.pending c.push.new.self c.args.first.now c.in_ok-push.ensures i (sym c.is_last.ensures ∙ c.if-is_last.false)
