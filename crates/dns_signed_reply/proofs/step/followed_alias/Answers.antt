use Rattle.std.proofs.Common.{sym, ◌∙◌}
use Rattle.dns_name_server.proofs.StepLaws.{alias_given, alias_not}
use Rattle.dns_signed_reply.proofs.StepLaws.{head_at}
use Rattle.dns_signed_reply.proofs.step.followed_alias.Goals as goal

pub returns-then-follows : goal.returns-then-follows
returns-then-follows c = c.first.ensures.value ∙ (head_at c.args.aliases.now ∙ alias_given c.args.rtype c.args.aliases.now (sym c.follows.ensures ∙ c.if-follows.true))

pub returns : goal.returns
returns c = alias_not c.args.rtype c.args.aliases.now (sym c.follows.ensures ∙ c.if-follows.false)
