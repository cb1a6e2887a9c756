-- What the clients of a script are sent.
use Rattle.std.specs.Prelude.{ℕ, List}
use Rattle.dns_service.specs.Answer.{Answer}
use Rattle.dns_service.specs.Req.{Req}
use Rattle.dns_events.specs.declared.event.Event.{Event}
use Rattle.dns_events.specs.declared.event.Output.{Output}
use Rattle.dns_events.specs.declared.event.Step.{Step}
use Rattle.dns_session.specs.Serving.{Serving}
use Rattle.dns_core.specs.Out.{out}
use Rattle.dns_core.specs.Outs.{outs}
pub use Rattle.dns_core.specs.WrappedServing.{wrapped_serving}
use Rattle.dns_events.specs.declared.settings.Settings.{Settings}
use Rattle.dns_route.specs.Routes.{routed}
use Rattle.dns_route.specs.Turns.{turned_over}
use Rattle.dns_zone.specs.ZoneTurns.{zone_turn}
use Rattle.dns_script.specs.Plan.{Plan, settings_of}
use Rattle.dns_script.specs.Played.{played}
use Rattle.dns_script.specs.Targets.{script_verdicts}
use Rattle.dns_script.specs.Upstreams.{upstream_turn, upstreams_under}
use Rattle.dns_script.specs.declared.service_lines.ServiceLines.{ServiceLines}
use Rattle.dns_script.specs.declared.service_lines.ServiceLines.TheVariants.{Rules, Upstreams, Zone}

-- what the service of a script answers: its rules, its upstreams in a forwarder, or its zone
abbrev pub service_answers : ServiceLines → Req (Unit {0}) → ℕ → Answer
service_answers (Rules rules) = played rules
service_answers (Upstreams upstreams) = turned_over (routed upstream_turn (upstreams_under upstreams))
service_answers (Zone zone) = turned_over (zone_turn zone)

-- what the clients of a script are sent for its events, or its steps, if this is what clients are sent for such
unfoldable pub plan_sent : {E : Type 0} → (Serving → Settings → List E → List Output) → Plan E → List Output
plan_sent sent p = sent (wrapped_serving (settings_of p) (service_answers p.service) (script_verdicts p.notify_rules))
    (settings_of p) p.events

-- what the clients are sent: the outputs of the events, served by the service under the settings
abbrev pub plan_outputs : Plan Event → List Output
plan_outputs = plan_sent out

-- what the clients are sent for steps, if a client hears of the server's changes only when it looks
abbrev pub plan_step_outputs : Plan Step → List Output
plan_step_outputs = plan_sent outs
