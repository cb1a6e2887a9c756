-- What a script says is in range.
use Rattle.std.proofs.Common.{◌≡◌, ℕ, ◌+◌, ◌<◌, ◌==◌, Bool, List, [], ◌∷◌, length, refl, arith}
use Rattle.std.specs.Prelude.{IfSome, Ok, Err, Result, Option, Some, None, codes}
use Rattle.std.specs.List.{AllByRecursion}
use Rattle.std.specs.Str.{bytes_eq}
use Rattle.std.specs.Str.Lines.{lines}
use Rattle.dns_message.specs.declared.record.Record.{Record}
use Rattle.dns_events.specs.declared.event.Event.{Event}
use Rattle.dns_trace.specs.EventLines.{event_line}
use Rattle.dns_trace.specs.InRange.{IsEvent}
use Rattle.dns_trace.specs.Lines.{is_skipped, is_text}
use Rattle.dns_trace.specs.Reading.{unless}
use Rattle.dns_trace.specs.SettingLines.{setting_line, setting_named}
use Rattle.dns_trace.specs.TextLines.{after_line, after_lines, after_words, numbered}
use Rattle.dns_trace.specs.Words.{word_at, words_of}
use Rattle.dns_trace.specs.declared.reason.Reason.{Reason}
use Rattle.dns_trace.specs.declared.reason.Reason.TheVariants.{Text}
use Rattle.dns_trace.specs.declared.setting.Setting.{Setting}
use Rattle.dns_zone.specs.ZoneErrors.{zone_error}
use Rattle.dns_zone.specs.declared.error.ZoneError.{ZoneError}
use Rattle.dns_script.proofs.AnswersBack.{one_behind}
use Rattle.dns_script.proofs.LinesBack.{IsReadNotify, IsReadRule, IsReadUpstream, notify_read, rule_read, upstream_read}
use Rattle.dns_script.proofs.NamesBack.{IsReadName}
use Rattle.dns_script.proofs.ReadRange.{Reads, at_ok, bound, choice, given, refused}
use Rattle.dns_script.proofs.RecordsBack.{IsReadRecord, apex_read, record_read}
use Rattle.dns_script.proofs.SettingsRead.{IsSaid, event_read, setting_read}
use Rattle.dns_script.specs.Draft.{Draft, ZoneSaid, empty_draft, finished, made_zone, record_more, service_by, without_zone}
use Rattle.dns_script.specs.Plan.{Plan, before_events}
use Rattle.dns_script.specs.Script.{before_rule, every_word, next_event_line, next_line, next_setting_line, notify_line, notify_of, of_plan, plan_line, rule_line, rule_of, said_line, script, service_line, zone_number}
use Rattle.dns_script.specs.Scripts.{event_script}
use Rattle.dns_script.specs.ServiceLines.{apex_of, before_record, before_upstream, before_zone, record_line, record_words, upstream_line, upstream_of, zone_line}
use Rattle.dns_script.specs.declared.rule.Rule.{Rule}
use Rattle.dns_script.specs.declared.service_lines.ServiceLines.{ServiceLines}
use Rattle.dns_script.specs.declared.service_lines.ServiceLines.TheVariants.{Rules, Upstreams, Zone}
use Rattle.dns_script.specs.declared.upstream.UpstreamLine.{UpstreamLine}

pub record IsReadPlan (p : Plan Event) : Type 0 where
  pub said : IsSaid p.said
  pub notify_rules : AllByRecursion IsReadNotify p.notify_rules
  pub events : AllByRecursion IsEvent p.events

pub record IsReadZone (z : ZoneSaid) : Type 0 where
  pub apex : IsReadName z.apex
  pub records : AllByRecursion IsReadRecord z.records

pub record IsReadDraft (d : Draft Event) : Type 0 where
  pub plan : IsReadPlan d.plan
  pub rules : AllByRecursion IsReadRule d.rules
  pub upstreams : AllByRecursion IsReadUpstream d.upstreams
  pub zone : IfSome d.zone IsReadZone

-- ---- a line more

event_kept : (p : Plan Event) (ws : List (List ℕ)) → IsReadPlan p → Reads IsReadPlan (next_event_line every_word event_line p ws)
unfolding next_event_line
event_kept p ws h =
    bound IsReadPlan (event_line ws) _ (λ e is. given _ _ (record { said = h.said; notify_rules = h.notify_rules; events = one_behind IsEvent p.events e h.events (at_ok IsEvent (event_line ws) e (event_read ws) is) }))

setting_kept : (setting : Setting) (p : Plan Event) (ws : List (List ℕ)) → IsReadPlan p → Reads IsReadPlan (next_setting_line setting p ws)
unfolding next_setting_line
setting_kept setting p ws h =
    let before : Bool = length p.events == 0 in
    bound IsReadPlan (setting_line setting before p.said ws) _ (λ s is.
    given _ _ (record { said = at_ok IsSaid (setting_line setting before p.said ws) s (setting_read setting before p.said ws h.said) is; notify_rules = h.notify_rules; events = h.events }))

next_kept : (o : Option Setting) (p : Plan Event) (ws : List (List ℕ)) → IsReadPlan p → Reads IsReadPlan (next_line every_word event_line o p ws)
next_kept (Some setting) p ws h = setting_kept setting p ws h
next_kept None p ws h = event_kept p ws h

notify_kept : (p : Plan Event) (ws : List (List ℕ)) → IsReadPlan p → Reads IsReadPlan (notify_line p ws)
unfolding notify_line
notify_kept p ws h =
    bound IsReadPlan (before_events p) _ (λ u e. bound _ (notify_of ws) _ (λ n is.
    given _ _ (record { said = h.said; notify_rules = one_behind IsReadNotify p.notify_rules n h.notify_rules (at_ok IsReadNotify (notify_of ws) n (notify_read ws) is); events = h.events })))

plan_kept : (p : Plan Event) (ws : List (List ℕ)) → IsReadPlan p → Reads IsReadPlan (plan_line every_word event_line p ws)
unfolding plan_line
plan_kept p ws h = choice IsReadPlan (bytes_eq (word_at ws 0) (codes "notify")) _ _ (λ e. notify_kept p ws h) (λ e. next_kept (setting_named (word_at ws 0)) p ws h)

rule_kept : (d : Draft Event) (ws : List (List ℕ)) → IsReadDraft d → Reads IsReadDraft (rule_line d ws)
unfolding rule_line
rule_kept d ws h =
    bound IsReadDraft (before_rule d) _ (λ u e. bound _ (rule_of ws) _ (λ r is.
    given _ _ (record { plan = h.plan; rules = one_behind IsReadRule d.rules r h.rules (at_ok IsReadRule (rule_of ws) r (rule_read ws) is); upstreams = h.upstreams; zone = h.zone })))

upstream_kept : (d : Draft Event) (ws : List (List ℕ)) → IsReadDraft d → Reads IsReadDraft (upstream_line d ws)
unfolding upstream_line
upstream_kept d ws h =
    bound IsReadDraft (before_upstream d) _ (λ u e. bound _ (upstream_of ws) _ (λ r is.
    given _ _ (record { plan = h.plan; rules = h.rules; upstreams = one_behind IsReadUpstream d.upstreams r h.upstreams (at_ok IsReadUpstream (upstream_of ws) r (upstream_read ws) is); zone = h.zone })))

zone_kept : (d : Draft Event) (ws : List (List ℕ)) → IsReadDraft d → Reads IsReadDraft (zone_line d ws)
unfolding zone_line
zone_kept d ws h =
    bound IsReadDraft (before_zone d) _ (λ u e. bound _ (apex_of ws) _ (λ n is.
    given _ _ (record { plan = h.plan; rules = h.rules; upstreams = h.upstreams; zone = record { apex = at_ok IsReadName (apex_of ws) n (apex_read ws) is; records = tt } })))

more_records : (o : Option ZoneSaid) (r : Record) → IfSome o IsReadZone → IsReadRecord r → IfSome (record_more o r) IsReadZone
more_records None r h k = tt
more_records (Some z) r h k = record { apex = h.apex; records = one_behind IsReadRecord z.records r h.records k }

record_kept : (d : Draft Event) (ws : List (List ℕ)) → IsReadDraft d → Reads IsReadDraft (record_line d ws)
unfolding record_line
record_kept d ws h =
    bound IsReadDraft (before_record d) _ (λ u e. bound _ (record_words ws) _ (λ r is.
    given _ _ (record { plan = h.plan; rules = h.rules; upstreams = h.upstreams; zone = more_records d.zone r h.zone (at_ok IsReadRecord (record_words ws) r (record_read ws) is) })))

of_plan_kept : (d : Draft Event) (r : Result (Plan Event) Reason) → IsReadDraft d → Reads IsReadPlan r → Reads IsReadDraft (of_plan d r)
of_plan_kept d (Ok p) h k = given _ _ (record { plan = k.each; rules = h.rules; upstreams = h.upstreams; zone = h.zone })
of_plan_kept d (Err e) h k = refused

service_kept_line : (d : Draft Event) (ws : List (List ℕ)) → IsReadDraft d → Reads IsReadDraft (service_line every_word event_line d ws)
unfolding service_line
service_kept_line d ws h =
    let w = word_at ws 0 in
    choice IsReadDraft (bytes_eq w (codes "rule")) _ _ (λ e. rule_kept d ws h)
    (λ e. choice _ (bytes_eq w (codes "upstream")) _ _ (λ e2. upstream_kept d ws h)
    (λ e2. choice _ (bytes_eq w (codes "zone")) _ _ (λ e3. zone_kept d ws h)
    (λ e3. choice _ (bytes_eq w (codes "record")) _ _ (λ e4. record_kept d ws h) (λ e4. of_plan_kept d (plan_line every_word event_line d.plan ws) h (plan_kept d.plan ws h.plan)))))

line_kept : (d : Draft Event) (ws : List (List ℕ)) → IsReadDraft d → Reads IsReadDraft (said_line every_word event_line d ws)
unfolding said_line
line_kept d ws h = service_kept_line d ws h

-- ---- all lines

after_kept : (d : Draft Event) (l : List ℕ) → IsReadDraft d → Reads IsReadDraft (after_line (said_line every_word event_line) d l)
unfolding after_words
after_kept d l h = choice IsReadDraft (is_skipped (words_of l)) _ _ (λ e. given _ _ h) (λ e. bound _ (unless Text (is_text l)) _ (λ u e2. line_kept d (words_of l) h))

numbered_kept : {A : Type 0} (P : A → Type 0) (n : ℕ) (r : Result A Reason) → Reads P r → Reads P (numbered n r)
numbered_kept P n (Ok x) h = given _ _ h.each
numbered_kept P n (Err e) h = refused

lines_kept : (ls : List (List ℕ)) (n : ℕ) (d : Draft Event) → IsReadDraft d → Reads IsReadDraft (after_lines (said_line every_word event_line) n d ls)
lines_kept [] n d h = given _ _ h
lines_kept (l ∷ ls) n d h =
    let first = numbered n (after_line (said_line every_word event_line) d l) in
    bound IsReadDraft first (λ t. after_lines (said_line every_word event_line) (n + 1) t ls) (λ t is. lines_kept ls (n + 1) t (at_ok IsReadDraft first t (numbered_kept IsReadDraft n _ (after_kept d l h)) is))

-- ---- the script

abbrev pub IsReadService : ServiceLines → Type 0
IsReadService (Rules rules) = AllByRecursion IsReadRule rules
IsReadService (Upstreams upstreams) = AllByRecursion IsReadUpstream upstreams × (0 < length upstreams)
IsReadService (Zone z) = IsReadName z.apex × AllByRecursion IsReadRecord z.records × (zone_error z.apex z.records ≡ None)

pub record IsReadScript (p : Plan Event) : Type 0 where
  pub plan : IsReadPlan p
  pub service : IsReadService p.service

without_kept : (rules : List Rule) (upstreams : List UpstreamLine) → AllByRecursion IsReadRule rules → AllByRecursion IsReadUpstream upstreams → IsReadService (without_zone rules upstreams)
without_kept rules [] h k = h
without_kept rules (u ∷ us) h k = (k, omega arith)

made_kept : (z : ZoneSaid) (o : Option ZoneError) → zone_error z.apex z.records ≡ o → IsReadZone z → Reads IsReadService (made_zone z o)
made_kept z None e h = given _ _ (h.apex, h.records, e)
made_kept z (Some x) e h = refused

service_kept : (rules : List Rule) (upstreams : List UpstreamLine) (zone : Option ZoneSaid) → AllByRecursion IsReadRule rules → AllByRecursion IsReadUpstream upstreams → IfSome zone IsReadZone
    → Reads IsReadService (service_by rules upstreams zone)
service_kept rules upstreams None h k z = given _ _ (without_kept rules upstreams h k)
service_kept rules upstreams (Some zone) h k z = made_kept zone (zone_error zone.apex zone.records) refl z

finished_kept : (d : Draft Event) → IsReadDraft d → Reads IsReadScript (finished d)
finished_kept d h =
    bound IsReadScript (service_by d.rules d.upstreams d.zone) _ (λ service is.
    given _ _ (record {
      plan = record { said = h.plan.said; notify_rules = h.plan.notify_rules; events = h.plan.events };
      service = at_ok IsReadService (service_by d.rules d.upstreams d.zone) service (service_kept d.rules d.upstreams d.zone h.rules h.upstreams h.zone) is;
    }))

none_read : IsReadDraft empty_draft
none_read = record { plan = record { said = record { secret = tt; denied = tt; dgram = tt; stream = tt }; notify_rules = tt; events = tt }; rules = tt; upstreams = tt; zone = tt }

pub script_read : (t : List ℕ) → Reads IsReadScript (event_script t)
unfolding script
script_read t =
    let all = after_lines (said_line every_word event_line) 1 empty_draft (lines t) in
    bound IsReadScript all _ (λ d is. numbered_kept IsReadScript (zone_number 0 (lines t)) (finished d) (finished_kept d (at_ok IsReadDraft all d (lines_kept (lines t) 1 empty_draft none_read) is)))
