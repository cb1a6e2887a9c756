-- The grammar of a script, line by line: the settings and the lines of the service and of the target stand before the first event.
-- That is a step if looks are read too. A line is refused for the first of these reasons that fits: it has an octet that is no
-- character; its first word is that of no line; it stands after an event, and may not, or is a record before its zone; it is a
-- service line of another kind than the first; it stands twice, and may not; it has too few words or too many; a word spells no
-- value. Each definition goes through them in this order. If no line is refused, the records of a zone may still be refused, at
-- the line of the zone.
use Rattle.std.specs.Prelude.{ℕ, ◌+◌, ◌-◌, ◌==◌, nat_le, Bool, true, Option, Some, None, List, [], ◌∷◌, ◌++◌, length, take, drop, Result, Ok, Err, codes, if◌then◌else◌}
use Rattle.std.specs.List.{list_all}
use Rattle.std.specs.Str.{bytes_eq}
use Rattle.std.specs.Str.Lines.{lines}
use Rattle.dns_trace.specs.NameWords.{name_word}
use Rattle.dns_trace.specs.Reading.{◌>>=◌, unless}
use Rattle.dns_trace.specs.SettingLines.{setting_line, setting_named}
use Rattle.dns_trace.specs.TextLines.{after_lines, numbered}
use Rattle.dns_trace.specs.Words.{word_at, words_of}
use Rattle.dns_trace.specs.declared.reason.Reason.{Reason}
use Rattle.dns_trace.specs.declared.reason.Reason.TheVariants.{Mix, Count, Value}
use Rattle.dns_trace.specs.declared.setting.Setting.{Setting}
use Rattle.dns_layers.specs.declared.notifiable.NotifyError.{NotifyError}
use Rattle.dns_layers.specs.declared.notifiable.NotifyError.TheVariants.{NotAuthForZone, Other}
use Rattle.dns_script.specs.declared.notify_rule.NotifyRule.{NotifyRule}
use Rattle.dns_script.specs.declared.rule.Rule.{Rule}
use Rattle.dns_script.specs.AnswerWords.{answers_after}
use Rattle.dns_script.specs.Draft.{Draft, empty_draft, finished, may_be_rule}
use Rattle.dns_script.specs.Plan.{Plan, before_events}
use Rattle.dns_script.specs.ServiceLines.{record_line, upstream_line, zone_line}

-- what is said with the line of this setting more
unfoldable pub next_setting_line : {E : Type 0} → Setting → Plan E → List (List ℕ) → Result (Plan E) Reason
next_setting_line setting p ws = setting_line setting (length p.events == 0) p.said ws >>= λ s. Ok (record p { said = s })

-- `*` for all names, or a name
abbrev pub for_name : Result (List (List ℕ)) Reason → Result (Option (List (List ℕ))) Reason
for_name (Ok n) = Ok (Some n)
for_name (Err e) = Err e

unfoldable pub rule_name : List ℕ → Result (Option (List (List ℕ))) Reason
rule_name w = if bytes_eq w (codes "*") then Ok None else for_name (name_word w)

-- rule NAME|* ANSWER ..
unfoldable pub rule_of : List (List ℕ) → Result Rule Reason
rule_of ws = do
  _ ← unless Count (nat_le 3 (length ws))
  name ← rule_name (word_at ws 1)
  answers ← answers_after [] (drop 2 ws)
  Ok (record { name = name; answers = answers })

-- a rule stands before the first event, if no service line of another kind does
abbrev pub before_rule : {E : Type 0} → Draft E → Result (Unit {0}) Reason
before_rule d = before_events d.plan >>= λ _. unless Mix (may_be_rule d)

unfoldable pub rule_line : {E : Type 0} → Draft E → List (List ℕ) → Result (Draft E) Reason
rule_line d ws = do
  _ ← before_rule d
  rule ← rule_of ws
  Ok (record d { rules = d.rules ++ rule ∷ [] })

-- ok, notauth or other
unfoldable pub verdict_word : List ℕ → Result (Result (Unit {0}) NotifyError) Reason
verdict_word w =
    if bytes_eq w (codes "ok") then Ok (Ok tt)
    else if bytes_eq w (codes "notauth") then Ok (Err NotAuthForZone)
    else if bytes_eq w (codes "other") then Ok (Err Other)
    else Err Value

-- the words between the name and the last are `pend`
abbrev pub words_between : List (List ℕ) → List (List ℕ)
words_between ws = take (length ws - 3) (drop 2 ws)

-- notify NAME pend .. ok|notauth|other
unfoldable pub notify_of : List (List ℕ) → Result NotifyRule Reason
notify_of ws = do
  _ ← unless Count (nat_le 3 (length ws))
  apex ← name_word (word_at ws 1)
  _ ← unless Value (list_all (λ w. bytes_eq w (codes "pend")) (words_between ws))
  verdict ← verdict_word (word_at ws (length ws - 1))
  Ok (record { apex = apex; pends = length ws - 3; verdict = verdict })

unfoldable pub notify_line : {E : Type 0} → Plan E → List (List ℕ) → Result (Plan E) Reason
notify_line p ws = do
  _ ← before_events p
  n ← notify_of ws
  Ok (record p { notify_rules = p.notify_rules ++ n ∷ [] })

-- a line that speaks of the plan alone
abbrev pub of_plan : {E : Type 0} → Draft E → Result (Plan E) Reason → Result (Draft E) Reason
of_plan d read = read >>= λ p. Ok (record d { plan = p })

-- a script that lacks no line
abbrev pub every_word : List ℕ → Bool
every_word w = true

-- the number of the first line that is a zone's, or else of the last line, if n lines stand before these
abbrev pub zone_number : ℕ → List (List ℕ) → ℕ
zone_number n [] = n
zone_number n (l ∷ ls) = if bytes_eq (word_at (words_of l) 0) (codes "zone") then n + 1 else zone_number (n + 1) ls

-- The lines after the settings and those of the service and of the target are events, or steps, by their reading; and a script may
-- lack some of those lines, by their first word.
module _ {E : Type 0} (has : List ℕ → Bool) (reading : List (List ℕ) → Result E Reason) where
  -- the line of an event, or of a step, by the reading of those
  unfoldable pub next_event_line : Plan E → List (List ℕ) → Result (Plan E) Reason
  next_event_line p ws = reading ws >>= λ e. Ok (record p { events = p.events ++ e ∷ [] })

  -- the line of a setting; else that of an event, or of a step
  abbrev pub next_line : Option Setting → Plan E → List (List ℕ) → Result (Plan E) Reason
  next_line (Some setting) p ws = next_setting_line setting p ws
  next_line None p ws = next_event_line p ws

  -- the line of the target, by its first word; else one of those
  unfoldable pub plan_line : Plan E → List (List ℕ) → Result (Plan E) Reason
  plan_line p ws = if bytes_eq (word_at ws 0) (codes "notify") then notify_line p ws else next_line (setting_named (word_at ws 0)) p ws

  -- a line of a zone, by its first word; else one of those
  abbrev pub zone_or_plan_line : Draft E → List (List ℕ) → Result (Draft E) Reason
  zone_or_plan_line d ws =
      if bytes_eq (word_at ws 0) (codes "zone") then zone_line d ws
      else if bytes_eq (word_at ws 0) (codes "record") then record_line d ws
      else of_plan d (plan_line d.plan ws)

  -- a line of the service, by its first word; else one of those
  unfoldable pub service_line : Draft E → List (List ℕ) → Result (Draft E) Reason
  service_line d ws =
      if bytes_eq (word_at ws 0) (codes "rule") then rule_line d ws
      else if bytes_eq (word_at ws 0) (codes "upstream") then upstream_line d ws
      else zone_or_plan_line d ws

  -- a line that says something; one that such a script lacks is read as an event, or as a step
  unfoldable pub said_line : Draft E → List (List ℕ) → Result (Draft E) Reason
  said_line d ws = if has (word_at ws 0) then service_line d ws else of_plan d (next_event_line d.plan ws)

  -- what its lines say, or the first bad line and its reason; a zone that its records don't make is refused at its line
  unfoldable pub script : List ℕ → Result (Plan E) (ℕ × Reason)
  script t = after_lines said_line 1 empty_draft (lines t) >>= λ d. numbered (zone_number 0 (lines t)) (finished d)
