-- What a script says: the settings of the server, if it sets one, its service, and the rules of its target. Then its events, or its
-- steps, each in the order of their lines.
use Rattle.std.specs.Prelude.{◌==◌, List, [], length, Result}
use Rattle.dns_events.specs.declared.settings.Settings.{Settings}
use Rattle.dns_trace.specs.Reading.{unless}
use Rattle.dns_trace.specs.Said.{Said, nothing_said, settings_said}
use Rattle.dns_trace.specs.declared.reason.Reason.{Reason}
use Rattle.dns_trace.specs.declared.reason.Reason.TheVariants.{Order}
use Rattle.dns_script.specs.declared.rule.Rule.{Rule}
use Rattle.dns_script.specs.declared.notify_rule.NotifyRule.{NotifyRule}
use Rattle.dns_script.specs.declared.service_lines.ServiceLines.{ServiceLines}
use Rattle.dns_script.specs.declared.service_lines.ServiceLines.TheVariants.{Rules}

pub record Plan (E : Type 0) : Type 0 where
  pub said : Said
  pub service : ServiceLines
  pub notify_rules : List NotifyRule
  pub events : List E

abbrev pub empty_plan : {E : Type 0} → Plan E
empty_plan = record { said = nothing_said; service = Rules []; notify_rules = []; events = [] }

-- before the first event
abbrev pub before_events : {E : Type 0} → Plan E → Result (Unit {0}) Reason
before_events p = unless Order (length p.events == 0)

-- the rules, if they are the service, and else none
abbrev pub rules_of : ServiceLines → List Rule
rules_of (Rules rules) = rules
rules_of _ = []

-- the settings of the server
abbrev pub settings_of : {E : Type 0} → Plan E → Settings
settings_of p = settings_said p.said
