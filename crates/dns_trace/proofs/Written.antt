-- Lines of words, and texts of lines.
use Rattle.std.proofs.Common.{◌≡◌, ◌∙◌, ℕ, List, [], ◌∷◌, ◌++◌, Some, refl, ap, sym, append_assoc, rules}
use Rattle.std.specs.List.{join_with_byte}
use Rattle.std.proofs.lemmas.List.{flat_map_more}
use Rattle.dns_events.specs.declared.event.Event.{Event}
use Rattle.dns_events.specs.declared.event.EventKind.{EventKind}
use Rattle.dns_events.specs.declared.event.EventKind.TheVariants.{End, Fault, Close, Tick, Release}
use Rattle.dns_trace.specs.Spelling.{line_of_words, spaced}
use Rattle.dns_trace.specs.Trace.{bare_name, client_words, event_text, kind_words, settings_text, trace}
use Rattle.dns_events.specs.declared.settings.Settings.{Settings}

-- one event more
pub noted : (s : Settings) (es : List Event) (e : Event) → trace s es ++ event_text e ≡ trace s (es ++ e ∷ [])
unfolding trace
noted s es e = flat_map_more event_text (settings_text s) es e

-- a line that says no more than its name and AT SECS CLIENT
bare_words : (kind : EventKind) (e : Event) (name : List ℕ) → bare_name kind ≡ Some name → kind_words kind e ≡ client_words name e []
bare_words End e name h = cc h
bare_words Fault e name h = cc h
bare_words Close e name h = cc h
bare_words Tick e name h = cc h
bare_words Release e name h = cc h
bare_words _ e name h = absurd (cc h)

pub bare_text : (e : Event) (name : List ℕ) → bare_name e.kind ≡ Some name → line_of_words (client_words name e []) ≡ event_text e
unfolding event_text
bare_text e name h = ap line_of_words (sym (bare_words e.kind e name h))

-- words after a space each
pub spaced_append : (v w : List (List ℕ)) → spaced (v ++ w) ≡ spaced v ++ spaced w
spaced_append [] w = refl
spaced_append (x ∷ v) w =
    ap (λ (t : List ℕ). 32 ∷ t) (ap (λ (t : List ℕ). x ++ t) (spaced_append v w) ∙ sym (append_assoc x (spaced v) (spaced w)))

pub joined_spaced : (w : List ℕ) (ws : List (List ℕ)) → join_with_byte 32 (w ∷ ws) ≡ w ++ spaced ws
joined_spaced w [] = search rules
joined_spaced w (v ∷ ws) = ap (λ (t : List ℕ). w ++ 32 ∷ t) (joined_spaced v ws)

-- a line that was begun, with the words after that
pub line_ended : (text name : List ℕ) (first more : List (List ℕ))
    → ((text ++ name ++ spaced first) ++ spaced more) ++ 10 ∷ [] ≡ text ++ line_of_words (name ∷ (first ++ more))
line_ended text name first more =
    rw (joined_spaced name (first ++ more), spaced_append first more) (simp append_assoc)
