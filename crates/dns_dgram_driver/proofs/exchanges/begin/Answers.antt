use Rattle.dns_session.specs.Serving.{serving}
use Rattle.dns_service.specs.PolledRequest.{request_answer}
use Rattle.dns_events.specs.declared.event.EventKind.TheVariants.{Datagram}
use Rattle.dns_dgram_driver.specs.Steps.{event_with, kept_at}
use Rattle.dns_dgram_driver.proofs.Keeping.{begun_one}
use Rattle.dns_dgram_driver.proofs.Places.{pushed_here, pushed_others}
use Rattle.dns_dgram_driver.proofs.ObservedLaws.{if_ok_on, on_ok_by}
use Rattle.dns_dgram_driver.proofs.exchanges.begin.Goals as goal

pub returns-in-Ok-clause-here : goal.returns-in-Ok-clause-here
returns-in-Ok-clause-here g c =
    let answer = request_answer g.W.Future.ReplyFuture.answer g.W.Stream.ReplyStream.answer in
    let answers = serving (g.W.SharedService.answer c.args.service.now) (g.W.SharedService.hint c.args.service.now) in
    let k = c.args.head.client in
    if_ok_on c.enter.result _ _ c.enter.ensures.packet c.enter.ensures.kept
    (λ packet l kept. begun_one answer answers c.args.state.now.heard (event_with c.args.head (Datagram c.args.addr c.args.octets)) c.args.addr c.args.octets (kept_at k c.args.state.now.exchanges.items) (kept_at k c.enter.new.exchanges.items) c.in-Ok.request c.in-Ok.sent packet
    c.in-Ok.ensures.begun c.in-Ok.ensures.spent (pushed_here k c.args.addr c.args.state.now.exchanges.items c.enter.new.exchanges.items c.in-Ok.request kept) l)

pub returns-in-Ok-clause-others : goal.returns-in-Ok-clause-others
returns-in-Ok-clause-others g c =
    on_ok_by c.enter.result c.enter.ensures.kept (λ kept n h. pushed_others n c.args.head.client c.args.addr c.args.state.now.exchanges.items c.enter.new.exchanges.items c.in-Ok.request h kept)
