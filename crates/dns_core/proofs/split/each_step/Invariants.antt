use Rattle.dns_session.specs.Serving.{serving}
use Rattle.std.proofs.Common.{◌≡◌, [], take}
use Rattle.dns_service.specs.PolledRequest.{request_answer}
use Rattle.dns_core.specs.Outs.{outs}
use Rattle.dns_core.specs.SplitServer.{ServesSteps}
use Rattle.dns_events.specs.declared.settings.Settings.{Settings}
use Rattle.dns_core.proofs.split.each_step.Given as goal

-- what was sent so far is what is sent for the steps so far
abbrev pub invariant-loop-step : goal.invariant-loop-step
invariant-loop-step g l =
    let answer = request_answer g.W.Future.ReplyFuture.answer g.W.Stream.ReplyStream.answer in
    let answers = serving (g.W.SharedService.answer l.service) (g.W.SharedService.hint l.service) in
    (settings : Settings) → ServesSteps answer answers settings [] l.fn.server.inner
    → (l.sent.items ≡ outs answers settings (take l.step-index l.steps)) × ServesSteps answer answers settings (take l.step-index l.steps) l.server.inner
