use Rattle.dns_session.specs.Serving.{serving}
use Rattle.std.proofs.Common.{◌∙◌, ap, ◌++◌, List}
use Rattle.dns_events.specs.declared.event.Output.{Output}
use Rattle.dns_core.specs.Outs.{step_gained}
use Rattle.dns_core.proofs.Placing.{outs_more}
use Rattle.dns_core.proofs.split.SplitServer.step.Goals as goal

pub returns-clause-ok : goal.returns-clause-ok
returns-clause-ok g c = λ settings q h.
    let answers = serving (g.W.SharedService.answer c.args.service.now) (g.W.SharedService.hint c.args.service.now) in
    let f = c.in_ok-more.ensures settings q h in (
      record {
        more = step_gained answers settings q c.args.step.now;
        appended = c.in_ok-append.ensures.ok ∙ ap (λ (os : List Output). c.args.outs.now.items ++ os) f.0;
        sent = outs_more answers settings q c.args.step.now;
      },
      f.1,
    )
