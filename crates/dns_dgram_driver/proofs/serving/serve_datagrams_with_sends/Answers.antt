use Rattle.dns_session.specs.Serving.{serving}
use Rattle.dns_service.specs.PolledRequest.{request_answer}
use Rattle.std.proofs.Common.{◌∙◌}
use Rattle.dns_dgram_driver.proofs.ObservedLaws.{tells_cj, tells_cj_dcj}
use Rattle.dns_dgram_driver.proofs.Starts.{first_fails, served_by}
use Rattle.dns_dgram_driver.proofs.Passes.{passes_first, looks_first}
use Rattle.dns_dgram_driver.proofs.serving.serve_datagrams_with_sends.Goals as goal

pub returns-in_default-clause-seat : goal.returns-in_default-clause-seat
returns-in_default-clause-seat g c = looks_first _ c.args.seat.known c.look-first.new.seat.known c.look-first.result c.look-first.ensures.called (λ e. absurd (cc e))

pub returns-in_default-clause-observed : goal.returns-in_default-clause-observed
returns-in_default-clause-observed g c = tells_cj c.in_default.ensures.no_memory (first_fails (serving (g.W.SharedService.answer c.args.service.now) (g.W.SharedService.hint c.args.service.now)) c.args.count c.look-first.ensures.called)

pub returns-clause-seat : goal.returns-clause-seat
returns-clause-seat g c = rw c.left-seat.ensures.seat (passes_first c.serve_begun-end.result c.look-first.result c.args.seat.known c.begun-state.result c.serve_begun-end.new.state _ _
    (rw c.begun-state.ensures.seat c.look-first.ensures.called) (c.begun-state.ensures.heard ∙ c.in-Ok.ensures.heard) c.serve_begun-end.ensures.passes.passes c.serve_begun-end.ensures.passes.closed)

pub returns-clause-observed : goal.returns-clause-observed
returns-clause-observed g c = rw c.left-seat.ensures.seat (tells_cj_dcj c.in-Ok.ensures.observed c.serve_begun-end.ensures.observed
    (served_by (request_answer g.W.Future.ReplyFuture.answer g.W.Stream.ReplyStream.answer) (serving (g.W.SharedService.answer c.args.service.now) (g.W.SharedService.hint c.args.service.now)) _ _ _ c.serve_begun-end.result c.args.count c.begun-state.result c.serve_begun-end.new.state c.begun-state.ensures.empty c.begun-state.ensures.next (c.begun-state.ensures.heard ∙ c.in-Ok.ensures.heard) (rw c.begun-state.ensures.seat c.look-first.ensures.called) c.serve_begun-end.ensures.passes.taken))
