-- The text of settings and events in range reads as these.
use Rattle.std.proofs.Common.{◌≡◌, ℕ, List, [], ◌∷◌, ◌++◌, map, None, refl, ap, sym, ◌∙◌, rules, append_assoc}
use Rattle.std.specs.Prelude.{Ok, flat_map}
use Rattle.std.specs.List.{All, AllByRecursion, join_with_byte}
use Rattle.std.specs.Str.Lines.{lines}
use Rattle.std.proofs.lemmas.Grind.{flat_map-append}
use Rattle.std.proofs.lemmas.List.Elements.{recursion_from_All}
use Rattle.std.proofs.lemmas.List.Folds.{flat_map-map}
use Rattle.dns_events.specs.declared.event.Event.{Event}
use Rattle.dns_events.specs.declared.event.EventKind.{EventKind}
use Rattle.dns_events.specs.declared.event.EventKind.TheVariants.{Datagram}
use Rattle.dns_trace.proofs.EventsBack.{event_are_words, line_back}
use Rattle.dns_trace.proofs.Folded.{AllSay, Says, lines_read, said_append, said_by, say_append, words_of_all}
use Rattle.dns_trace.proofs.Joined.{lines_written}
use Rattle.dns_trace.proofs.SettingsBack.{only_said, settings_back, settings_say, settings_whole, whole_said}
use Rattle.dns_trace.specs.InRange.{IsEvent, IsSettings}
use Rattle.dns_trace.specs.Said.{Said}
use Rattle.dns_trace.specs.SettingLines.{setting_named}
use Rattle.dns_trace.specs.Spelling.{line_of_words}
use Rattle.dns_trace.specs.TextLines.{after_lines}
use Rattle.dns_trace.specs.Trace.{event_text, event_words, kind_words, settings_lines, settings_text, trace}
use Rattle.dns_trace.specs.Traced.{TraceSaid, next_event, nothing_traced, trace_line, traced, whole_trace}
use Rattle.dns_trace.specs.Words.{word_at}
use Rattle.dns_events.specs.declared.settings.Settings.{Settings}

-- the line of an event is that of no setting
no_setting : (kind : EventKind) (e : Event) → setting_named (word_at (kind_words kind e) 0) ≡ None
no_setting (Datagram addr octets) e = refl
no_setting _ e = refl

-- nor a comment
kind_says : (kind : EventKind) (e : Event) → Says (kind_words kind e)
kind_says (Datagram addr octets) e = refl
kind_says _ e = refl

-- settings, and events
abbrev said : Said → List Event → TraceSaid
said p es = record { settings = p; events = es }

event_step : (p : Said) (given : List Event) (e : Event) → IsEvent e → trace_line (said p given) (event_words e) ≡ Ok (said p (given ++ e ∷ []))
unfolding next_event
event_step p given e h = rw (no_setting e.kind e, line_back e h) refl

none_more : (given : List Event) → given ++ [] ≡ given
none_more given = search rules

events_back : (es : List Event) (p : Said) (given : List Event) → AllByRecursion IsEvent es → said_by trace_line (said p given) (map event_words es) ≡ Ok (said p (given ++ es))
events_back [] p given h = ap (λ (d : List Event). Ok (said p d)) (sym (none_more given))
events_back (e ∷ es) p given h =
    rw (event_step p given e h.0)
    (events_back es p (given ++ e ∷ []) h.1 ∙ ap (λ (d : List Event). Ok (said p d)) (append_assoc given (e ∷ []) es))

pub events_say : (es : List Event) → AllByRecursion IsEvent es → AllSay (map event_words es)
events_say [] h = tt
events_say (e ∷ es) h = (event_are_words e h.0, kind_says e.kind e, events_say es h.1)

-- all lines of a trace
abbrev all_lines : Settings → List Event → List (List (List ℕ))
all_lines s es = settings_lines s ++ map event_words es

trace_lines : (s : Settings) (es : List Event) → trace s es ≡ flat_map line_of_words (all_lines s es)
unfolding trace settings_text event_text
trace_lines s es =
    sym (flat_map-append line_of_words (settings_lines s) (map event_words es)
    ∙ ap (λ (t : List ℕ). flat_map line_of_words (settings_lines s) ++ t) (flat_map-map line_of_words event_words es))

pub reads_back : (s : Settings) (es : List Event) → IsSettings s → All IsEvent es → traced (trace s es) ≡ Ok (s, es)
unfolding traced
reads_back s es h k =
    let each = recursion_from_All IsEvent es k in
    let say : AllSay (all_lines s es) = say_append (settings_lines s) (map event_words es) (settings_say s h) (events_say es each) in
    let text : lines (trace s es) ≡ map (join_with_byte 32) (all_lines s es) = ap lines (trace_lines s es) ∙ lines_written (all_lines s es) (words_of_all (all_lines s es) say) in
    let all : said_by trace_line nothing_traced (all_lines s es) ≡ Ok (said (whole_said s) es) =
    said_append trace_line (settings_lines s) (map event_words es) nothing_traced (only_said (whole_said s)) (settings_back s h)
    ∙ events_back es (whole_said s) [] each in
    ap (λ (ls : List (List ℕ)). whole_trace (after_lines trace_line 1 nothing_traced ls)) text
    ∙ ap whole_trace (lines_read trace_line (all_lines s es) 1 nothing_traced (said (whole_said s) es) say all)
    ∙ ap (λ (t : Settings). Ok (t, es)) (settings_whole s h)
