use Rattle.std.proofs.Common.{List, ap, ◌∙◌}
use Rattle.std.specs.Prelude.{◌||◌}
use Rattle.dns_message.specs.declared.record.Record.{Record}
use Rattle.dns_zone_tree.specs.Wildcards.{are_some}
use Rattle.dns_signed_reply.proofs.StepLaws.{behind_is}
use Rattle.dns_signed_reply.proofs.plain.behind.Goals as goal

pub returns : goal.returns
returns c =
    let p = c.args.end in
    behind_is c.args.given.items c.in_ok-answers.answers.items c.is_authoritative-aa.result p c.in_ok-answers.ensures (c.is_authoritative-aa.ensures ∙ ap (λ (l : List Record). are_some l || p.aa) c.as_slice.ensures.value)
