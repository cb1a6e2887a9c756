use Rattle.dns_session.specs.Serving.{serving}
use Rattle.std.proofs.Common.{ap, sym, ◌∙◌, ◌^◌, ◌++◌, List}
use Rattle.dns_events.specs.declared.event.Output.{Output}
use Rattle.dns_core.specs.Out.{out}
use Rattle.dns_flood.specs.Counts.{output_counts, sum_of}
use Rattle.dns_flood.specs.declared.counts.Counts.{Counts}
use Rattle.dns_flood.proofs.Flooded.{counts_more, exact_sum}
use Rattle.dns_flood.proofs.flood.count_event.Goals as goal

pub returns-clause-counted : goal.returns-clause-counted
returns-clause-counted g c = λ s q lt h counted.
    let answers = serving (g.W.SharedService.answer c.args.service.now) (g.W.SharedService.hint c.args.service.now) in
    let f = c.in_ok-step.ensures.ok s q lt h in
    let sent = c.deref.ensures.value ∙ f.0.appended ∙ ap (λ (os : List Output). os ++ f.0.more) c.new-outputs.ensures.items in
    let before = out answers s q in (
      f.1,
      exact_sum c.args.counts.now (output_counts c.deref.result.now) _ c.add.ensures.sum (c.add.ensures.few (2 ^ 127) c.requires.room)
          ∙ ap (λ (x : Counts). sum_of x (output_counts c.deref.result.now)) counted
          ∙ ap (λ (os : List Output). sum_of (output_counts before) (output_counts os)) sent
          ∙ sym (ap output_counts f.0.sent ∙ counts_more before f.0.more),
    )
