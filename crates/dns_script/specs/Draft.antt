-- What a script says as far as its lines are read: its plan, whose service isn't made yet, and its service lines, which are of one kind:
-- rules, or upstreams, or a zone and its records.
use Rattle.std.specs.Prelude.{ℕ, ◌==◌, ◌&&◌, not, is_some, Bool, List, [], ◌∷◌, ◌++◌, length, Option, Some, None, Result, Ok, Err}
use Rattle.dns_message.specs.declared.record.Record.{Record}
use Rattle.dns_trace.specs.Reading.{◌>>=◌}
use Rattle.dns_trace.specs.declared.reason.LineError.{LineError}
use Rattle.dns_trace.specs.declared.reason.LineError.TheVariants.{OutOfMemory, Refused}
use Rattle.dns_trace.specs.declared.reason.Reason.{Reason}
use Rattle.dns_trace.specs.declared.reason.Reason.TheVariants.{Zone as NoZone}
use Rattle.dns_zone.specs.ZoneErrors.{zone_error}
use Rattle.dns_zone.specs.declared.error.ZoneError.{ZoneError}
use Rattle.dns_zone.specs.declared.error.ZoneError.TheVariants.{OutOfMemory as NoMemory}
use Rattle.dns_script.specs.Plan.{Plan, empty_plan}
use Rattle.dns_script.specs.declared.rule.Rule.{Rule}
use Rattle.dns_script.specs.declared.service_lines.ServiceLines.{ServiceLines}
use Rattle.dns_script.specs.declared.service_lines.ServiceLines.TheVariants.{Rules, Upstreams, Zone}
use Rattle.dns_script.specs.declared.upstream.UpstreamLine.{UpstreamLine}

-- the name of a zone, and the records after its line
pub record ZoneSaid : Type 0 where
  pub apex : List (List ℕ)
  pub records : List Record

pub record Draft (E : Type 0) : Type 0 where
  pub plan : Plan E
  pub rules : List Rule
  pub upstreams : List UpstreamLine
  pub zone : Option ZoneSaid

abbrev pub empty_draft : {E : Type 0} → Draft E
empty_draft = record { plan = empty_plan; rules = []; upstreams = []; zone = None }

-- a service line is of the kind of those before it
abbrev pub may_be_rule : {E : Type 0} → Draft E → Bool
may_be_rule d = (length d.upstreams == 0) && not (is_some d.zone)

abbrev pub may_be_upstream : {E : Type 0} → Draft E → Bool
may_be_upstream d = (length d.rules == 0) && not (is_some d.zone)

abbrev pub may_be_zone : {E : Type 0} → Draft E → Bool
may_be_zone d = (length d.rules == 0) && (length d.upstreams == 0)

-- a zone with a record more, if there is one
abbrev pub record_more : Option ZoneSaid → Record → Option ZoneSaid
record_more None r = None
record_more (Some z) r = Some (record z { records = z.records ++ r ∷ [] })

abbrev pub with_zone_record : {E : Type 0} → Draft E → Record → Draft E
with_zone_record d r = record d { zone = record_more d.zone r }

-- the zone, if its records make one
abbrev pub made_zone : ZoneSaid → Option ZoneError → Result ServiceLines Reason
made_zone z None = Ok (Zone (record { apex = z.apex; records = z.records }))
made_zone z (Some e) = Err NoZone

-- how its line is refused, if memory may have run out
abbrev pub zone_refused : ZoneError → LineError
zone_refused NoMemory = OutOfMemory
zone_refused _ = Refused NoZone

-- without a zone: the upstreams, if there are some, and else the rules
abbrev pub without_zone : List Rule → List UpstreamLine → ServiceLines
without_zone rules [] = Rules rules
without_zone rules (u ∷ us) = Upstreams (u ∷ us)

abbrev pub service_by : List Rule → List UpstreamLine → Option ZoneSaid → Result ServiceLines Reason
service_by rules upstreams None = Ok (without_zone rules upstreams)
service_by rules upstreams (Some z) = made_zone z (zone_error z.apex z.records)

-- a plan with the service that is read, if one is
abbrev pub with_service : {E : Type 0} → Plan E → Result ServiceLines Reason → Result (Plan E) Reason
with_service p read = read >>= λ service. Ok (record p { service = service })

-- the plan with the service that its lines say
abbrev pub finished : {E : Type 0} → Draft E → Result (Plan E) Reason
finished d = with_service d.plan (service_by d.rules d.upstreams d.zone)
