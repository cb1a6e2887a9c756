-- How a service serves in the layers of a server's settings.
use Rattle.std.specs.Prelude.{ℕ}
use Rattle.dns_service.specs.Answer.{Answer}
use Rattle.dns_service.specs.Req.{Req}
use Rattle.dns_session.specs.Serving.{Serving, serving}
use Rattle.dns_middleware.specs.Verdicts.{Verdicts, verdict_on}
use Rattle.dns_middleware.specs.Wrapped.{hint_left, replies}
use Rattle.dns_events.specs.declared.settings.Settings.{Settings}

-- how a service serves in the layers of the settings, by what it answers and a target's verdicts
abbrev pub wrapped_serving : Settings → (Req (Unit {0}) → ℕ → Answer) → Verdicts → Serving
wrapped_serving s answers verdicts = serving (replies s answers (verdict_on verdicts)) (hint_left s)
