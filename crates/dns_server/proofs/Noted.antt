-- The text of a recorder, and what it says was noted.
use Rattle.std.proofs.Common.{◌≡◌, ℕ, List, [], ◌∷◌, ◌++◌, Bool, true, false, refl, ap, subst, sym, ◌∙◌}
use Rattle.std.proofs.Math.Logic.{∥∥₁_elim, ∥∥₁_map}
use Rattle.std.proofs.lemmas.Bool.{eqb-true, false≢true}
use Rattle.std.proofs.lemmas.List.Elements.{All-append, All-from_recursion}
use Rattle.std.specs.Coded.{Coded-set, coded_bool, coded_list, coded_ℕ}
use Rattle.std.specs.List.{All}
use Rattle.std.specs.Prelude.{◌==◌, ◌&&◌, ◌||◌, not, flat_map, Result, Ok, Err, IsOk}
use Rattle.dns_events.specs.contracts.event.Event as event
use Rattle.dns_events.specs.declared.event.Event.{Event}
use Rattle.dns_events.specs.declared.settings.Settings.{Settings}
use Rattle.dns_trace.specs.InRange.{IsEvent, IsSettings}
use Rattle.dns_trace.specs.Trace.{event_text, settings_text, trace}
use Rattle.dns_trace.specs.Traced.{traced}
use Rattle.dns_trace.specs.declared.reason.Reason.{Reason}
use Rattle.dns_server.specs.Recorded.{IsTrace, TraceReadsBack, settings_event, recorded, recorded_of}

left_of : (a b : Bool) → (a && b) ≡ true → a ≡ true
left_of true b h = refl
left_of false b h = h

right_of : (a b : Bool) → (a && b) ≡ true → b ≡ true
right_of true b h = h
right_of false b h = absurd (false≢true h)

-- an event that all clients hear names none
pub names_none : (wide : Bool) (client : ℕ) → (not wide || (client == 0)) ≡ true → wide ≡ true → client ≡ 0
names_none true client h w = eqb-true client 0 h
names_none false client h w = absurd (false≢true w)

-- with one event more
abbrev pub Adds : List ℕ → List ℕ → Event → Type 0
Adds old new e = (s : Settings) (es : List Event) → old ≡ trace s es → new ≡ trace s (es ++ e ∷ [])

each_more : (es : List Event) (e : Event) → All IsEvent es → IsEvent e → All IsEvent (es ++ e ∷ [])
each_more es e each fits = All-append IsEvent es (e ∷ []) each (All-from_recursion IsEvent (e ∷ []) (fits, tt))

more : (old new : List ℕ) (e : Event) → Adds old new e → IsEvent e → IsTrace old → IsTrace new
more old new e adds fits t = record {
  settings = t.settings;
  events = t.events ++ e ∷ [];
  is = adds t.settings t.events t.is;
  sound = t.sound;
  each = each_more t.events e t.each fits;
}

pub still_trace : (said b : Bool) (old new : List ℕ) (e : Event) → ∥ (said ≡ true → IsTrace old) ∥₁ → Adds old new e → (b ≡ true → IsEvent e) → ∥ ((said && b) ≡ true → IsTrace new) ∥₁
still_trace said b old new e was adds fits = ∥∥₁_map was (λ is all. more old new e adds (fits (right_of said b all)) (is (left_of said b all)))

-- what was read, or else something else
abbrev read_or : Settings × List Event → Result (Settings × List Event) (ℕ × Reason) → Settings × List Event
read_or d (Ok r) = r
read_or d (Err e) = d

-- if the trace of settings and events in range reads back
module _ (law : (s : Settings) (es : List Event) → IsSettings s → All IsEvent es → traced (trace s es) ≡ Ok (s, es)) where
  reads : (text : List ℕ) (t : IsTrace text) → traced text ≡ Ok (t.settings, t.events)
  reads text t = ap traced t.is ∙ law t.settings t.events t.sound t.each

  recorded_more : (old new : List ℕ) (e : Event) → Adds old new e → IsEvent e → IsTrace old → recorded new ≡ recorded old ++ e ∷ []
  unfolding recorded
  recorded_more old new e adds fits t =
      let read : traced new ≡ Ok (t.settings, t.events ++ e ∷ []) = ap traced (adds t.settings t.events t.is) ∙ law t.settings (t.events ++ e ∷ []) t.sound (each_more t.events e t.each fits) in
      ap recorded_of read ∙ sym (ap (λ r. recorded_of r ++ e ∷ []) (reads old t))

  pub noted_more : (said b : Bool) (old new : List ℕ) (e : Event) → ∥ (said ≡ true → IsTrace old) ∥₁ → Adds old new e → (b ≡ true → IsEvent e) → (said && b) ≡ true
      → (said ≡ true) × (recorded new ≡ recorded old ++ e ∷ [])
  noted_more said b old new e was adds fits all = (
    left_of said b all,
    ∥∥₁_elim was (Coded-set (coded_list event.the_row.coded) _ _) (λ is. recorded_more old new e adds (fits (right_of said b all)) (is (left_of said b all))),
  )

  pub none_noted : (s : Settings) → IsSettings s → recorded (trace s []) ≡ settings_event s ∷ []
  unfolding recorded
  none_noted s h = ap recorded_of (law s [] h (All-from_recursion IsEvent [] tt))

  one_trace : (text : List ℕ) (r : Settings × List Event) → traced text ≡ Ok r → (t : IsTrace text) → (t.settings, t.events) ≡ r
  one_trace text r read t = ap (read_or r) (sym (reads text t) ∙ read)

  back : (text : List ℕ) (r : Result (Settings × List Event) (ℕ × Reason)) → traced text ≡ r → IsOk r → ∥ IsTrace text ∥₁ → TraceReadsBack text (recorded_of r)
  back text (Ok r) read ok was = record {
    settings = r.0;
    events = r.1;
    is = ∥∥₁_elim was (Coded-set (coded_list coded_ℕ) _ _) (λ t. t.is ∙ ap (λ (p : Settings × List Event). trace p.0 p.1) (one_trace text r read t));
    sound = ∥∥₁_map was (λ t. subst (λ (p : Settings × List Event). IsSettings p.0) (one_trace text r read t) t.sound);
    read = read;
    noted_are = refl;
  }
  back text (Err e) read ok was = absurd (false≢true ok)

  pub reads_whole : (said : Bool) (text : List ℕ) → ∥ (said ≡ true → IsTrace text) ∥₁ → said ≡ true → TraceReadsBack text (recorded text)
  unfolding recorded
  reads_whole said text was all =
      let whole : ∥ IsTrace text ∥₁ = ∥∥₁_map was (λ is. is all) in
      back text (traced text) refl (∥∥₁_elim whole (Coded-set coded_bool _ _) (λ t. rw (reads text t) refl)) whole

  -- settings in range whose lines are the same are the same
  alone : (s : Settings) → IsSettings s → traced (trace s []) ≡ Ok (s, [])
  alone s h = law s [] h (All-from_recursion IsEvent [] tt)

  pub same_lines : (s s' : Settings) → IsSettings s → IsSettings s' → settings_text s ≡ settings_text s' → s ≡ s'
  unfolding trace
  same_lines s s' h h' lines =
      ap (λ r. (read_or (s, []) r).0)
      (sym (alone s h) ∙ (ap (λ (l : List ℕ). traced (l ++ flat_map event_text [])) lines ∙ alone s' h'))
