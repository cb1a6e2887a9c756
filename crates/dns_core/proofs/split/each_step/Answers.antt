use Rattle.dns_session.specs.Serving.{serving}
use Rattle.std.proofs.Common.{◌≡◌, ◌+◌, ap, sym, ◌∙◌, ◌∷◌, ◌++◌, [], List, take, length, ◌<◌}
use Rattle.std.proofs.lemmas.List.{take_more, take_all}
use Rattle.dns_events.specs.declared.event.Step.{Step}
use Rattle.dns_events.specs.declared.event.Output.{Output}
use Rattle.dns_core.specs.Outs.{outs}
use Rattle.dns_core.proofs.split.each_step.Goals as goal

pub loop-step-init : goal.loop-step-init
unfolding outs
loop-step-init g c = λ settings start. (c.requires.nothing, start)

pub loop-step-preserved : goal.loop-step-preserved
loop-step-preserved g c = λ settings start.
    let i = c.loop-step.step-index in
    let ss = c.args.steps.now in
    let x = c.step-item.result in
    let lt : i < length ss = c.loop-step-test.true in
    let t : take (i + 1) ss ≡ take i ss ++ x ∷ [] = take_more ss i x lt ∙ ap (λ (y : Step). take i ss ++ y ∷ []) (sym c.step-item.is) in
    let so = c.loop-step.invariant settings start in
    let f = c.in_ok-step.ensures.ok settings (take i ss) so.1 in
    (rw t (f.0.appended ∙ ap (λ (os : List Output). os ++ f.0.more) so.0 ∙ sym f.0.sent), rw t f.1)

pub returns : goal.returns
returns g c = λ settings start.
    (c.loop-step.invariant settings start).0
    ∙ ap (outs (serving (g.W.SharedService.answer c.args.service.now) (g.W.SharedService.hint c.args.service.now)) settings) (take_all c.loop-step.step-index c.args.steps.now c.loop-step-test.false)
