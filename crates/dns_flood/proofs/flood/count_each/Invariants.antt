use Rattle.dns_session.specs.Serving.{serving}
use Rattle.std.proofs.Common.{◌≡◌, ◌*◌, ◌^◌, []}
use Rattle.dns_service.specs.PolledRequest.{request_answer}
use Rattle.dns_core.specs.Out.{out}
use Rattle.dns_core.specs.Server.{Serves}
use Rattle.dns_events.specs.declared.settings.Settings.{Settings}
use Rattle.dns_flood.specs.Counts.{IsAtMost, output_counts}
use Rattle.dns_flood.specs.Flood.{flood_events, number_at}
use Rattle.dns_flood.proofs.flood.count_each.Given as goal

-- that many events were made and served, and what was sent for them was counted
abbrev pub invariant-loop-made : goal.invariant-loop-made
invariant-loop-made g l =
    let answer = request_answer g.W.Future.ReplyFuture.answer g.W.Stream.ReplyStream.answer in
    let answers = serving (g.W.SharedService.answer l.service) (g.W.SharedService.hint l.service) in
    record {
      number : l.number ≡ number_at l.seed l.made;
      counted : (s : Settings) → Serves answer answers s [] l.fn.server
          → Serves answer answers s (flood_events l.seed l.made) l.server × (l.counts ≡ output_counts (out answers s (flood_events l.seed l.made)));
      few : IsAtMost (l.made * 2 ^ 64) l.counts;
    }
