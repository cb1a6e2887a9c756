use Rattle.dns_session.specs.Serving.{serving}
use Rattle.std.proofs.Common.{◌≡◌, ◌+◌, ap, sym, ◌∙◌, ◌∷◌, ◌++◌, [], List, take, length, ◌<◌, arith, length-take}
use Rattle.std.proofs.lemmas.List.{take_more, take_all}
use Rattle.dns_admission.specs.Machine.{last_version}
use Rattle.dns_events.specs.declared.event.Event.{Event}
use Rattle.dns_events.specs.declared.event.Output.{Output}
use Rattle.dns_core.specs.Out.{out}
use Rattle.dns_core.proofs.server.each_event.Goals as goal

pub loop-event-init : goal.loop-event-init
unfolding out
loop-event-init g c = λ settings start. (c.requires.nothing, start)

pub loop-event-preserved : goal.loop-event-preserved
loop-event-preserved g c = λ settings start.
    let i = c.loop-event.event-index in
    let es = c.args.events.now in
    let e = c.event-item.result in
    let lt : i < length es = c.loop-event-test.true in
    let t : take (i + 1) es ≡ take i es ++ e ∷ [] = take_more es i e lt ∙ ap (λ (x : Event). take i es ++ x ∷ []) (sym c.event-item.is) in
    let fits : length (take i es) < last_version = simp length-take (omega arith) in
    let so = c.loop-event.invariant settings start in
    let f = c.in_ok-step.ensures.ok settings (take i es) fits so.1 in
    (rw t (f.0.appended ∙ ap (λ (os : List Output). os ++ f.0.more) so.0 ∙ sym f.0.sent), rw t f.1)

pub returns : goal.returns
returns g c = λ settings start.
    (c.loop-event.invariant settings start).0
    ∙ ap (out (serving (g.W.SharedService.answer c.args.service.now) (g.W.SharedService.hint c.args.service.now)) settings) (take_all c.loop-event.event-index c.args.events.now c.loop-event-test.false)
