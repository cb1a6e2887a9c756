-- How words and a script plan a server.
use Rattle.std.specs.Prelude.{◌≡◌, ℕ, Option, Some, None, IsSome, Result, Ok, Err}
use Rattle.dns_middleware.specs.Verdicts.{Verdicts}
use Rattle.dns_events.specs.declared.settings.Settings.{Settings}
use Rattle.dns_trace.specs.declared.reason.Reason.{Reason}
use Rattle.dns_service.specs.Answer.{Answer}
use Rattle.dns_service.specs.Req.{Req}
use Rattle.dns_flood.specs.Plan.{Plan, rules_of, settings_of}
use Rattle.dns_flood.specs.Played.{played}
use Rattle.dns_flood.specs.Targets.{script_verdicts}
use Rattle.dns_flood.specs.NoEvent.{NoEvent}
use Rattle.dns_run.specs.declared.serve_words.ServeWords.{ServeWords}
use Rattle.dns_run.specs.declared.server_plan.ServePlan.{ServePlan}
use Rattle.dns_run.specs.declared.status.Status.{Status}
use Rattle.dns_run.specs.declared.status.Status.TheVariants.{Usage, OutOfMemory}

-- the plan has the address and the count of the words, which are of no such form exactly if that is told; running out of memory is
-- reported in place of either
abbrev pub HeedsWords : Result ServePlan Status → Option ServeWords → Type 0
HeedsWords (Ok p) asked = asked ≡ Some (record { addr = p.addr; count = p.count })
HeedsWords (Err Usage) asked = asked ≡ None
HeedsWords (Err OutOfMemory) asked = Unit {0}
HeedsWords (Err _) asked = IsSome asked

-- a text is a script, whose settings, answers and verdicts these are
pub record PlaysScript (read : Result (Plan NoEvent) (ℕ × Reason)) (settings : Settings) (answers : Req (Unit {0}) → ℕ → Answer)
    (verdicts : Verdicts) : Type 0 where
  pub said : Plan NoEvent
  pub is_read : read ≡ Ok said
  pub settings_said : settings ≡ settings_of said
  pub answers_said : answers ≡ played (rules_of said.service)
  pub verdicts_said : verdicts ≡ script_verdicts said.notify_rules
