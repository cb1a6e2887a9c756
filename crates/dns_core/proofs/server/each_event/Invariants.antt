use Rattle.dns_session.specs.Serving.{serving}
use Rattle.std.proofs.Common.{◌≡◌, [], take}
use Rattle.dns_service.specs.PolledRequest.{request_answer}
use Rattle.dns_core.specs.Out.{out}
use Rattle.dns_core.specs.Server.{Serves}
use Rattle.dns_events.specs.declared.settings.Settings.{Settings}
use Rattle.dns_core.proofs.server.each_event.Given as goal

-- what was sent so far is what is sent for the events so far
abbrev pub invariant-loop-event : goal.invariant-loop-event
invariant-loop-event g l =
    let answer = request_answer g.W.Future.ReplyFuture.answer g.W.Stream.ReplyStream.answer in
    let answers = serving (g.W.SharedService.answer l.service) (g.W.SharedService.hint l.service) in
    (settings : Settings) → Serves answer answers settings [] l.fn.server
    → (l.outs.items ≡ out answers settings (take l.event-index l.events)) × Serves answer answers settings (take l.event-index l.events) l.server
