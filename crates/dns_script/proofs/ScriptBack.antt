-- The text of a script that was read reads as that script.
use Rattle.std.proofs.Common.{◌≡◌, ℕ, ◌==◌, false, List, [], ◌∷◌, ◌++◌, map, length, refl, ap, sym, ◌∙◌, arith, rules, append_assoc, append-nil}
use Rattle.std.specs.Prelude.{IfOk, Ok, Err, Result, Option, Some, None, flat_map}
use Rattle.std.specs.List.{AllByRecursion, join_with_byte}
use Rattle.std.specs.Str.Lines.{lines}
use Rattle.std.proofs.lemmas.Grind.{flat_map-append}
use Rattle.std.proofs.lemmas.List.Folds.{flat_map-map}
use Rattle.dns_message.specs.declared.record.Record.{Record}
use Rattle.dns_name.specs.declared.address.IpAddr.{IpAddr}
use Rattle.dns_events.specs.declared.event.Event.{Event}
use Rattle.dns_events.specs.declared.event.EventKind.{EventKind}
use Rattle.dns_events.specs.declared.event.EventKind.TheVariants.{Datagram}
use Rattle.dns_events.specs.declared.settings.Settings.{Settings}
use Rattle.dns_trace.proofs.EventsBack.{line_back}
use Rattle.dns_trace.proofs.Folded.{AllSay, lines_read, said_append, said_by, say_append, words_of_all}
use Rattle.dns_trace.proofs.Joined.{lines_written}
use Rattle.dns_trace.proofs.SettingsBack.{only_said, settings_back, settings_say, settings_whole, whole_said}
use Rattle.dns_trace.proofs.TraceBack.{events_say}
use Rattle.dns_trace.specs.EventLines.{event_line}
use Rattle.dns_trace.specs.InRange.{IsEvent, IsSettings}
use Rattle.dns_trace.specs.Reading.{◌>>=◌}
use Rattle.dns_trace.specs.Said.{Said}
use Rattle.dns_trace.specs.Spelling.{line_of_words}
use Rattle.dns_trace.specs.TextLines.{after_lines, numbered}
use Rattle.dns_trace.specs.Trace.{deny_words, event_text, event_words, kind_words, secret_lines, settings_lines, settings_text}
use Rattle.dns_trace.specs.Traced.{TraceSaid, trace_line}
use Rattle.dns_trace.specs.SettingLines.{setting_line, setting_named}
use Rattle.dns_trace.specs.Words.{word_at}
use Rattle.dns_trace.specs.declared.reason.Reason.{Reason}
use Rattle.dns_trace.specs.declared.setting.Setting.{Setting}
use Rattle.dns_script.proofs.LinesBack.{IsReadNotify, IsReadRule, IsReadUpstream, notify_are_words, notify_back, rule_are_words, rule_back, upstream_are_words, upstream_back}
use Rattle.dns_script.proofs.NamesBack.{IsReadName}
use Rattle.dns_script.proofs.ReadRange.{at_ok, same_ok}
use Rattle.dns_script.proofs.RecordsBack.{IsReadRecord, apex_are_words, apex_back, record_are_words, record_back}
use Rattle.dns_script.proofs.ScriptRead.{IsReadScript, IsReadService, script_read}
use Rattle.dns_script.proofs.SettingsRead.{settings_in_range}
use Rattle.dns_script.proofs.TraceScripts.{next_same, of_read, plain_line, said_plainly, traced_of}
use Rattle.dns_script.specs.Draft.{Draft, ZoneSaid, empty_draft, finished}
use Rattle.dns_script.specs.Plan.{Plan, empty_plan, settings_of}
use Rattle.dns_script.specs.Script.{every_word, next_event_line, next_line, next_setting_line, notify_line, of_plan, plan_line, rule_line, said_line, script, service_line, zone_number}
use Rattle.dns_script.specs.ScriptText.{SameScript, script_text, service_text, target_text, words_of_apex, words_of_notify, words_of_record, words_of_rule, words_of_service, words_of_upstream}
use Rattle.dns_script.specs.Scripts.{event_script}
use Rattle.dns_script.specs.ServiceLines.{record_line, upstream_line, zone_line}
use Rattle.dns_script.specs.TraceScript.{is_service_word}
use Rattle.dns_script.specs.declared.notify_rule.NotifyRule.{NotifyRule}
use Rattle.dns_script.specs.declared.rule.Rule.{Rule}
use Rattle.dns_script.specs.declared.service_lines.ServiceLines.{ServiceLines}
use Rattle.dns_script.specs.declared.service_lines.ServiceLines.TheVariants.{Rules, Upstreams, Zone}
use Rattle.dns_script.specs.declared.upstream.UpstreamLine.{UpstreamLine}

-- what a line of a script says
abbrev line : Draft Event → List (List ℕ) → Result (Draft Event) Reason
line = said_line every_word event_line

-- ---- the lines of a service

rule_step : (d : Draft Event) (r : Rule) → d.plan.events ≡ [] → d.upstreams ≡ [] → d.zone ≡ None → IsReadRule r → line d (words_of_rule r) ≡ Ok (record d { rules = d.rules ++ r ∷ [] })
unfolding said_line service_line rule_line
rule_step d r e u z h = rw (e, u, z, rule_back r h) refl

rules_said : (rs : List Rule) (d : Draft Event) → d.plan.events ≡ [] → d.upstreams ≡ [] → d.zone ≡ None → AllByRecursion IsReadRule rs
    → said_by line d (map words_of_rule rs) ≡ Ok (record d { rules = d.rules ++ rs })
rules_said [] d e u z h = ap (λ (q : List Rule). Ok (record d { rules = q })) (sym (append-nil d.rules))
rules_said (r ∷ rs) d e u z h =
    rw (rule_step d r e u z h.0)
    (rules_said rs (record d { rules = d.rules ++ r ∷ [] }) e u z h.1 ∙ ap (λ (q : List Rule). Ok (record d { rules = q })) (append_assoc d.rules (r ∷ []) rs))

upstream_step : (d : Draft Event) (u : UpstreamLine) → d.plan.events ≡ [] → d.rules ≡ [] → d.zone ≡ None → IsReadUpstream u → line d (words_of_upstream u) ≡ Ok (record d { upstreams = d.upstreams ++ u ∷ [] })
unfolding said_line service_line upstream_line
upstream_step d u e r z h = rw (e, r, z, upstream_back u h) refl

upstreams_said : (us : List UpstreamLine) (d : Draft Event) → d.plan.events ≡ [] → d.rules ≡ [] → d.zone ≡ None → AllByRecursion IsReadUpstream us
    → said_by line d (map words_of_upstream us) ≡ Ok (record d { upstreams = d.upstreams ++ us })
upstreams_said [] d e r z h = ap (λ (q : List UpstreamLine). Ok (record d { upstreams = q })) (sym (append-nil d.upstreams))
upstreams_said (u ∷ us) d e r z h =
    rw (upstream_step d u e r z h.0)
    (upstreams_said us (record d { upstreams = d.upstreams ++ u ∷ [] }) e r z h.1 ∙ ap (λ (q : List UpstreamLine). Ok (record d { upstreams = q })) (append_assoc d.upstreams (u ∷ []) us))

zone_step : (d : Draft Event) (apex : List (List ℕ)) → d.plan.events ≡ [] → d.rules ≡ [] → d.upstreams ≡ [] → d.zone ≡ None → IsReadName apex
    → line d (words_of_apex apex) ≡ Ok (record d { zone = Some (record { apex = apex; records = [] }) })
unfolding said_line service_line zone_line
zone_step d apex e r u z h = rw (e, r, u, z, apex_back apex h) refl

record_step : (d : Draft Event) (z : ZoneSaid) (r : Record) → d.plan.events ≡ [] → d.zone ≡ Some z → IsReadRecord r
    → line d (words_of_record r) ≡ Ok (record d { zone = Some (record z { records = z.records ++ r ∷ [] }) })
unfolding said_line service_line record_line
record_step d z r e is h = rw (e, is, record_back r h) refl

-- a draft with these records of a zone
abbrev zoned : Draft Event → List (List ℕ) → List Record → Draft Event
zoned d apex rs = record d { zone = Some (record { apex = apex; records = rs }) }

records_said : (rs : List Record) (d : Draft Event) (apex : List (List ℕ)) (given : List Record) → d.plan.events ≡ [] → AllByRecursion IsReadRecord rs
    → said_by line (zoned d apex given) (map words_of_record rs) ≡ Ok (zoned d apex (given ++ rs))
records_said [] d apex given e h = ap (λ (q : List Record). Ok (zoned d apex q)) (sym (append-nil given))
records_said (r ∷ rs) d apex given e h =
    rw (record_step (zoned d apex given) (record { apex = apex; records = given }) r e refl h.0)
    (records_said rs d apex (given ++ r ∷ []) e h.1 ∙ ap (λ (q : List Record). Ok (zoned d apex q)) (append_assoc given (r ∷ []) rs))

-- a draft of nothing but a plan, with a service
abbrev served : Plan Event → ServiceLines → Draft Event
served p (Rules rules) = record { plan = p; rules = rules; upstreams = []; zone = None }
served p (Upstreams upstreams) = record { plan = p; rules = []; upstreams = upstreams; zone = None }
served p (Zone z) = record { plan = p; rules = []; upstreams = []; zone = Some (record { apex = z.apex; records = z.records }) }

abbrev unserved : Plan Event → Draft Event
unserved p = record { plan = p; rules = []; upstreams = []; zone = None }

service_said : (s : ServiceLines) (p : Plan Event) → p.events ≡ [] → IsReadService s → said_by line (unserved p) (words_of_service s) ≡ Ok (served p s)
service_said (Rules rules) p e h = rules_said rules (unserved p) e refl refl h
service_said (Upstreams upstreams) p e h = upstreams_said upstreams (unserved p) e refl refl h.0
service_said (Zone z) p e h = rw (zone_step (unserved p) z.apex e refl refl refl h.0) (records_said z.records (unserved p) z.apex [] e h.1)

-- ---- the lines of a target

notify_step : (d : Draft Event) (n : NotifyRule) → d.plan.events ≡ [] → IsReadNotify n → line d (words_of_notify n) ≡ Ok (record d { plan = record d.plan { notify_rules = d.plan.notify_rules ++ n ∷ [] } })
unfolding said_line service_line plan_line notify_line
notify_step d n e h = rw (e, notify_back n h) refl

abbrev with_notify_rules : Draft Event → List NotifyRule → Draft Event
with_notify_rules d notify_rules = record d { plan = record d.plan { notify_rules = notify_rules } }

target_said : (ns : List NotifyRule) (d : Draft Event) → d.plan.events ≡ [] → AllByRecursion IsReadNotify ns → said_by line d (map words_of_notify ns) ≡ Ok (with_notify_rules d (d.plan.notify_rules ++ ns))
target_said [] d e h = ap (λ (q : List NotifyRule). Ok (with_notify_rules d q)) (sym (append-nil d.plan.notify_rules))
target_said (n ∷ ns) d e h =
    rw (notify_step d n e h.0)
    (target_said ns (with_notify_rules d (d.plan.notify_rules ++ n ∷ [])) e h.1 ∙ ap (λ (q : List NotifyRule). Ok (with_notify_rules d q)) (append_assoc d.plan.notify_rules (n ∷ []) ns))

-- ---- the lines of events

event_plain : (kind : EventKind) (e : Event) (d : Draft Event) → line d (kind_words kind e) ≡ of_plan d (next_event_line every_word event_line d.plan (kind_words kind e))
unfolding said_line service_line plan_line
event_plain (Datagram addr octets) e d = refl
event_plain _ e d = refl

abbrev with_events : Draft Event → List Event → Draft Event
with_events d events = record d { plan = record d.plan { events = events } }

event_read : (d : Draft Event) (e : Event) → IsEvent e → of_plan d (next_event_line every_word event_line d.plan (event_words e)) ≡ Ok (with_events d (d.plan.events ++ e ∷ []))
unfolding next_event_line
event_read d e h = rw (line_back e h) refl

event_step : (d : Draft Event) (e : Event) → IsEvent e → line d (event_words e) ≡ Ok (with_events d (d.plan.events ++ e ∷ []))
event_step d e h = event_plain e.kind e d ∙ event_read d e h

events_said : (es : List Event) (d : Draft Event) → AllByRecursion IsEvent es → said_by line d (map event_words es) ≡ Ok (with_events d (d.plan.events ++ es))
events_said [] d h = ap (λ (q : List Event). Ok (with_events d q)) (sym (append-nil d.plan.events))
events_said (e ∷ es) d h =
    rw (event_step d e h.0)
    (events_said es (with_events d (d.plan.events ++ e ∷ [])) h.1 ∙ ap (λ (q : List Event). Ok (with_events d q)) (append_assoc d.plan.events (e ∷ []) es))

-- ---- the lines of settings, as a trace reads them

-- a plan of what a trace says
abbrev of_trace : Plan Event → TraceSaid → Plan Event
of_trace p t = record p { said = t.settings; events = t.events }

setting_kept : (p : Plan Event) (r : Result Said Reason) → IfOk (r >>= λ s. Ok (record p { said = s })) (λ q. q ≡ of_trace p (traced_of q))
setting_kept p (Ok s) = refl
setting_kept p (Err e) = tt

event_kept : (p : Plan Event) (r : Result Event Reason) → IfOk (r >>= λ e. Ok (record p { events = p.events ++ e ∷ [] })) (λ q. q ≡ of_trace p (traced_of q))
event_kept p (Ok e) = refl
event_kept p (Err e) = tt

rest_kept : (o : Option Setting) (p : Plan Event) (ws : List (List ℕ)) → IfOk (next_line every_word event_line o p ws) (λ q. q ≡ of_trace p (traced_of q))
unfolding next_setting_line next_event_line
rest_kept (Some setting) p ws = setting_kept p (setting_line setting (length p.events == 0) p.said ws)
rest_kept None p ws = event_kept p (event_line ws)

by_plain : (d : Draft Event) (p : Plan Event) (r : Result (Plan Event) Reason) (t : TraceSaid) → of_read r ≡ Ok t → IfOk r (λ q. q ≡ of_trace p (traced_of q))
    → of_plan d r ≡ Ok (record d { plan = of_trace p t })
by_plain d p (Ok q) t e h =
    let same : traced_of q ≡ t = same_ok (of_read (Ok q)) (traced_of q) t refl e in
    ap (λ (x : Plan Event). Ok (record d { plan = x })) (h ∙ ap (of_trace p) same)
by_plain d p (Err x) t e h = cc e

plain_step : (d : Draft Event) (ws : List (List ℕ)) (t : TraceSaid) → is_service_word (word_at ws 0) ≡ false → trace_line (traced_of d.plan) ws ≡ Ok t
    → line d ws ≡ Ok (record d { plan = of_trace d.plan t })
plain_step d ws t h e =
    said_plainly d ws h
    ∙ by_plain d d.plan (plain_line d.plan ws) t (sym (next_same (setting_named (word_at ws 0)) d.plan ws) ∙ e) (rest_kept (setting_named (word_at ws 0)) d.plan ws)

abbrev ArePlain : List (List (List ℕ)) → Type 0
ArePlain [] = Unit {0}
ArePlain (ws ∷ more) = (is_service_word (word_at ws 0) ≡ false) × ArePlain more

-- what a first step gave, if both gave t
first_step : (r : Result TraceSaid Reason) (f : TraceSaid → Result TraceSaid Reason) (t : TraceSaid) → (r >>= f) ≡ Ok t → (u : TraceSaid) × (r ≡ Ok u) × (f u ≡ Ok t)
first_step (Ok u) f t h = (u, refl, h)
first_step (Err e) f t h = cc h

plainly_said : (all : List (List (List ℕ))) (d : Draft Event) (t : TraceSaid) → ArePlain all → said_by trace_line (traced_of d.plan) all ≡ Ok t
    → said_by line d all ≡ Ok (record d { plan = of_trace d.plan t })
plainly_said [] d t h e = ap (λ (r : Result TraceSaid Reason). r >>= λ u. Ok (record d { plan = of_trace d.plan u })) e
plainly_said (ws ∷ more) d t h e =
    let first = first_step (trace_line (traced_of d.plan) ws) (λ u. said_by trace_line u more) t e in
    rw (plain_step d ws first.0 h.0 first.1) (plainly_said more (record d { plan = of_trace d.plan first.0 }) t h.1 first.2)

plain_append : (all more : List (List (List ℕ))) → ArePlain all → ArePlain more → ArePlain (all ++ more)
plain_append [] more h k = k
plain_append (ws ∷ all) more h k = (h.0, plain_append all more h.1 k)

secret_plain : (o : Option (List ℕ)) → ArePlain (secret_lines o)
secret_plain None = tt
secret_plain (Some o) = (refl, tt)

deny_plain : (addresses : List IpAddr) → ArePlain (map deny_words addresses)
deny_plain [] = tt
deny_plain (a ∷ addresses) = (refl, deny_plain addresses)

settings_plain : (s : Settings) → ArePlain (settings_lines s)
settings_plain s = (refl, (refl, plain_append (secret_lines s.cookies) _ (secret_plain s.cookies) (plain_append (map deny_words s.denied) _ (deny_plain s.denied) (refl, (refl, (refl, tt))))))

-- a plan that says settings alone
abbrev set : Settings → Plan Event
set s = record empty_plan { said = whole_said s }

settings_script : (s : Settings) → IsSettings s → said_by line empty_draft (settings_lines s) ≡ Ok (unserved (set s))
settings_script s h = plainly_said (settings_lines s) empty_draft (only_said (whole_said s)) (settings_plain s) (settings_back s h)

-- ---- all lines

abbrev all_lines : Settings → Plan Event → List (List (List ℕ))
all_lines s p = settings_lines s ++ (words_of_service p.service ++ (map words_of_notify p.notify_rules ++ map event_words p.events))

-- what they say
abbrev again : Settings → Plan Event → Plan Event
again s p = record (set s) { service = p.service; notify_rules = p.notify_rules; events = p.events }

-- a draft of what they say, whose service isn't made yet
abbrev drafted : Settings → Plan Event → Draft Event
drafted s p = served (record (set s) { notify_rules = p.notify_rules; events = p.events }) p.service

kind_plan : (p q : Plan Event) (s : ServiceLines) → record (served p s) { plan = q } ≡ served q s
kind_plan p q (Rules rules) = refl
kind_plan p q (Upstreams upstreams) = refl
kind_plan p q (Zone z) = refl

plan_is : (p : Plan Event) (s : ServiceLines) → (served p s).plan ≡ p
plan_is p (Rules rules) = refl
plan_is p (Upstreams upstreams) = refl
plan_is p (Zone z) = refl

target_kind : (s : ServiceLines) (p : Plan Event) (ns : List NotifyRule) → p.events ≡ [] → AllByRecursion IsReadNotify ns → said_by line (served p s) (map words_of_notify ns) ≡ Ok (served (record p { notify_rules = p.notify_rules ++ ns }) s)
target_kind (Rules rules) p ns e h = target_said ns (served p (Rules rules)) e h
target_kind (Upstreams upstreams) p ns e h = target_said ns (served p (Upstreams upstreams)) e h
target_kind (Zone z) p ns e h = target_said ns (served p (Zone z)) e h

events_kind : (s : ServiceLines) (p : Plan Event) (es : List Event) → AllByRecursion IsEvent es → said_by line (served p s) (map event_words es) ≡ Ok (served (record p { events = p.events ++ es }) s)
events_kind (Rules rules) p es h = events_said es (served p (Rules rules)) h
events_kind (Upstreams upstreams) p es h = events_said es (served p (Upstreams upstreams)) h
events_kind (Zone z) p es h = events_said es (served p (Zone z)) h

all_said : (s : Settings) (p : Plan Event) → IsSettings s → IsReadScript p → said_by line empty_draft (all_lines s p) ≡ Ok (drafted s p)
all_said s p h k =
    let more = map words_of_notify p.notify_rules ++ map event_words p.events in
    let p1 : Plan Event = record (set s) { notify_rules = p.notify_rules } in
    said_append line (settings_lines s) (words_of_service p.service ++ more) empty_draft (unserved (set s)) (settings_script s h)
    ∙ said_append line (words_of_service p.service) more (unserved (set s)) (served (set s) p.service) (service_said p.service (set s) refl k.service)
    ∙ said_append line (map words_of_notify p.notify_rules) (map event_words p.events) (served (set s) p.service) (served p1 p.service) (target_kind p.service (set s) p.notify_rules refl k.plan.notify_rules)
    ∙ events_kind p.service p1 p.events k.plan.events

-- ---- each of them says something

rules_say : (rs : List Rule) → AllByRecursion IsReadRule rs → AllSay (map words_of_rule rs)
rules_say [] h = tt
rules_say (r ∷ rs) h = (rule_are_words r h.0, refl, rules_say rs h.1)

upstreams_say : (us : List UpstreamLine) → AllByRecursion IsReadUpstream us → AllSay (map words_of_upstream us)
upstreams_say [] h = tt
upstreams_say (u ∷ us) h = (upstream_are_words u h.0, refl, upstreams_say us h.1)

records_say : (rs : List Record) → AllByRecursion IsReadRecord rs → AllSay (map words_of_record rs)
records_say [] h = tt
records_say (r ∷ rs) h = (record_are_words r h.0, refl, records_say rs h.1)

service_say : (s : ServiceLines) → IsReadService s → AllSay (words_of_service s)
service_say (Rules rules) h = rules_say rules h
service_say (Upstreams upstreams) h = upstreams_say upstreams h.0
service_say (Zone z) h = (apex_are_words z.apex h.0, refl, records_say z.records h.1)

target_say : (ns : List NotifyRule) → AllByRecursion IsReadNotify ns → AllSay (map words_of_notify ns)
target_say [] h = tt
target_say (n ∷ ns) h = (notify_are_words n h.0, refl, target_say ns h.1)

all_say : (s : Settings) (p : Plan Event) → IsSettings s → IsReadScript p → AllSay (all_lines s p)
all_say s p h k =
    say_append (settings_lines s) _ (settings_say s h)
    (say_append (words_of_service p.service) _ (service_say p.service k.service)
    (say_append (map words_of_notify p.notify_rules) _ (target_say p.notify_rules k.plan.notify_rules) (events_say p.events k.plan.events)))

-- ---- the text

text_is : (p : Plan Event) → script_text p ≡ flat_map line_of_words (all_lines (settings_of p) p)
unfolding script_text settings_text service_text target_text event_text
text_is p =
    let s = settings_of p in
    let service = words_of_service p.service in
    let target = map words_of_notify p.notify_rules in
    let events = map event_words p.events in
    sym (flat_map-append line_of_words (settings_lines s) (service ++ (target ++ events))
    ∙ ap (λ (t : List ℕ). flat_map line_of_words (settings_lines s) ++ t) (flat_map-append line_of_words service (target ++ events)
    ∙ ap (λ (t : List ℕ). flat_map line_of_words service ++ t) (flat_map-append line_of_words target events
    ∙ ap (λ (t : List ℕ). flat_map line_of_words target ++ t) (flat_map-map line_of_words event_words p.events))))

finished_again : (s : Settings) (p : Plan Event) (service : ServiceLines) → service ≡ p.service → IsReadService service → finished (served (record (set s) { notify_rules = p.notify_rules; events = p.events }) service) ≡ Ok (again s p)
finished_again s p (Rules rules) e h = rw (← e) refl
finished_again s p (Upstreams []) e h = absurd (omega (arith, h.1))
finished_again s p (Upstreams (u ∷ us)) e h = rw (← e) refl
finished_again s p (Zone z) e h = rw (h.2, ← e) refl

read_again : (p : Plan Event) → IsReadScript p → event_script (script_text p) ≡ Ok (again (settings_of p) p)
unfolding script
read_again p k =
    let s = settings_of p in
    let h = settings_in_range p.said k.plan.said in
    let say = all_say s p h k in
    let text : lines (script_text p) ≡ map (join_with_byte 32) (all_lines s p) = ap lines (text_is p) ∙ lines_written (all_lines s p) (words_of_all (all_lines s p) say) in
    let number : ℕ = zone_number 0 (lines (script_text p)) in
    let read : after_lines line 1 empty_draft (lines (script_text p)) ≡ Ok (drafted s p) =
    ap (after_lines line 1 empty_draft) text ∙ lines_read line (all_lines s p) 1 empty_draft (drafted s p) say (all_said s p h k) in
    rw read (ap (λ (r : Result (Plan Event) Reason). numbered number r) (finished_again s p p.service refl k.service))

pub script_back : (t : List ℕ) (p : Plan Event) → event_script t ≡ Ok p → (q : Plan Event) × (event_script (script_text p) ≡ Ok q) × SameScript p q × (script_text q ≡ script_text p)
unfolding script_text
script_back t p e =
    let k : IsReadScript p = at_ok IsReadScript (event_script t) p (script_read t) e in
    let s = settings_of p in
    let whole = settings_whole s (settings_in_range p.said k.plan.said) in (
      again s p,
      read_again p k,
      record { settings = whole; service = refl; target = refl; events = refl },
      ap (λ (x : Settings). settings_text x ++ (service_text p.service ++ (target_text p.notify_rules ++ flat_map event_text p.events))) whole,
    )
