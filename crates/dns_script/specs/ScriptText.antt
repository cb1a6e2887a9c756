-- The one text of a script: its settings, its service, its target and its events, each in the order of their lines.
use Rattle.std.specs.Prelude.{ℕ, ◌≡◌, List, [], ◌∷◌, ◌++◌, codes, decimal, flat_map, map, replicate}
use Rattle.dns_message.specs.Records.{data_octets, data_type}
use Rattle.dns_message.specs.declared.record.Record.{Record}
use Rattle.dns_events.specs.declared.event.Event.{Event}
use Rattle.dns_trace.specs.Spelling.{line_of_words, octets_word}
use Rattle.dns_trace.specs.Trace.{event_text, settings_text}
use Rattle.dns_script.specs.Plan.{Plan, settings_of}
use Rattle.dns_script.specs.Spelled.{name_or_star, spelled_answer, spelled_event, spelled_name, spelled_verdict}
use Rattle.dns_script.specs.declared.notify_rule.NotifyRule.{NotifyRule}
use Rattle.dns_script.specs.declared.rule.Rule.{Rule}
use Rattle.dns_script.specs.declared.service_lines.ServiceLines.{ServiceLines}
use Rattle.dns_script.specs.declared.service_lines.ServiceLines.TheVariants.{Rules, Upstreams, Zone}
use Rattle.dns_script.specs.declared.upstream.UpstreamLine.{UpstreamLine}

-- rule NAME|* ANSWER ..
abbrev pub words_of_rule : Rule → List (List ℕ)
words_of_rule r = codes "rule" ∷ name_or_star r.name ∷ map spelled_answer r.answers

-- upstream NAME WORD ..
abbrev pub words_of_upstream : UpstreamLine → List (List ℕ)
words_of_upstream u = codes "upstream" ∷ spelled_name u.name ∷ map spelled_event u.words

-- zone NAME
abbrev pub words_of_apex : List (List ℕ) → List (List ℕ)
words_of_apex apex = codes "zone" ∷ spelled_name apex ∷ []

-- record NAME TTL TYPE HEX
abbrev pub words_of_record : Record → List (List ℕ)
words_of_record r = codes "record" ∷ spelled_name r.owner ∷ decimal r.ttl ∷ decimal (data_type r.rdata)
    ∷ octets_word (data_octets r.rdata) ∷ []

abbrev pub words_of_service : ServiceLines → List (List (List ℕ))
words_of_service (Rules rules) = map words_of_rule rules
words_of_service (Upstreams upstreams) = map words_of_upstream upstreams
words_of_service (Zone zone) = words_of_apex zone.apex ∷ map words_of_record zone.records

-- notify NAME pend .. ok|notauth|other
abbrev pub words_of_notify : NotifyRule → List (List ℕ)
words_of_notify n = codes "notify" ∷ spelled_name n.apex ∷ replicate n.pends (codes "pend") ++ spelled_verdict n.verdict ∷ []

-- the lines of a service
unfoldable pub service_text : ServiceLines → List ℕ
service_text service = flat_map line_of_words (words_of_service service)

-- the lines of a target
unfoldable pub target_text : List NotifyRule → List ℕ
target_text notify_rules = flat_map line_of_words (map words_of_notify notify_rules)

-- the settings, also if they are the default ones, the service, the target, and one line for each event
unfoldable pub script_text : Plan Event → List ℕ
script_text p = settings_text (settings_of p) ++ (service_text p.service ++ (target_text p.notify_rules ++ flat_map event_text p.events))

-- scripts of the same settings, service, target and events
pub record SameScript (p q : Plan Event) : Type 0 where
  pub settings : settings_of q ≡ settings_of p
  pub service : q.service ≡ p.service
  pub target : q.notify_rules ≡ p.notify_rules
  pub events : q.events ≡ p.events
