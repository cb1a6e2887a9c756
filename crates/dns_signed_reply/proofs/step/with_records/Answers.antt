use Rattle.std.proofs.Common.{ap, subst, ◌∙◌}
use Rattle.std.specs.Prelude.{IfOk, Option}
use Rattle.dns_message.specs.declared.record.Record.{Record}
use Rattle.dns_name_server.specs.Steps.{own_reply}
use Rattle.dns_signed_reply.specs.PlainReplies.{StepsTo, alias_or, behind}
use Rattle.dns_signed_reply.specs.declared.step.Step.{Step}
use Rattle.dns_signed_reply.proofs.step.with_records.Goals as goal

pub returns-in-Some : goal.returns-in-Some
returns-in-Some c =
    let r = own_reply c.args.zone.now c.args.records.items in
    subst (λ (o : Option Record). IfOk c.follow.result (λ (s : Step). StepsTo c.args.given.now.items c.follow.new.given.items s (λ go. alias_or r go o))) c.in-Some.ensures c.follow.ensures

pub returns-in_ok-reply-in-None : goal.returns-in_ok-reply-in-None
returns-in_ok-reply-in-None c = λ go. ap (behind c.args.given.now.items) (c.in_ok-reply-in-None.ensures ∙ ap (alias_or (own_reply c.args.zone.now c.args.records.items) go) c.in-None.ensures)
