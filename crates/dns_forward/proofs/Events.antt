-- What one event more does to the filters of an asking's events, and to their outcomes.
use Rattle.std.proofs.Common.{◌≡◌, ℕ, Bool, true, false, List, [], ◌∷◌, ◌++◌, cond, refl, ap, sym, ◌∙◌, append_assoc}
use Rattle.std.specs.List.{filter, filter_map}
use Rattle.std.proofs.lemmas.List.{append-nil}
use Rattle.std.proofs.lemmas.List.Elements.{filter-append, filter_map-append}
use Rattle.dns_forward.specs.declared.asking_event.AskingEvent.{AskingEvent}
use Rattle.dns_forward.specs.declared.asking_event.AskingEvent.TheVariants.{Arrived, Tick}
use Rattle.dns_forward.specs.declared.asking_event.AskingOutcome.{AskingOutcome}
use Rattle.dns_forward.specs.Asked.{Inquiry, arrival, asked_by, due, due_ticks, is_due, last_from, matching_arrivals, outcome, outcomes, moment_of_tick}
use Rattle.dns_forward.specs.Matching.{matches}

-- ---- outcomes

outcomes-more : (q : Inquiry) (before es : List AskingEvent) (e : AskingEvent) → outcomes q before (es ++ e ∷ []) ≡ outcomes q before es ++ outcome q (before ++ es) e ∷ []
outcomes-more q before [] e = ap (λ (b : List AskingEvent). outcome q b e ∷ []) (sym (append-nil before))
outcomes-more q before (x ∷ es) e =
    ap (λ (os : List AskingOutcome). outcome q before x ∷ os)
    (outcomes-more q (before ++ x ∷ []) es e ∙ ap (λ (b : List AskingEvent). outcomes q (before ++ x ∷ []) es ++ outcome q b e ∷ []) (append_assoc before (x ∷ []) es))

-- what comes of an event more is the last outcome
pub asked-more : (q : Inquiry) (es : List AskingEvent) (e : AskingEvent) → asked_by q (es ++ e ∷ []) ≡ asked_by q es ++ outcome q es e ∷ []
asked-more q es e = outcomes-more q [] es e

-- ---- arrivals

is_match : Inquiry → List ℕ → Bool
is_match q o = matches q.message q.id o

more_events : (q : Inquiry) (es : List AskingEvent) (e : AskingEvent) → matching_arrivals q (es ++ e ∷ []) ≡ matching_arrivals q es ++ filter (λ (o : List ℕ). matches q.message q.id o) (filter_map arrival (e ∷ []))
more_events q es e =
    let p : List ℕ → Bool = λ (o : List ℕ). matches q.message q.id o in
    ap (filter p) (filter_map-append arrival es (e ∷ [])) ∙ filter-append p (filter_map arrival es) (filter_map arrival (e ∷ []))

pub match-more : (q : Inquiry) (es : List AskingEvent) (at : ℕ) (o : List ℕ) → matches q.message q.id o ≡ true → matching_arrivals q (es ++ Arrived at o ∷ []) ≡ matching_arrivals q es ++ o ∷ []
match-more q es at o m = more_events q es (Arrived at o) ∙ ap (λ (b : Bool). matching_arrivals q es ++ cond b (o ∷ []) []) m

pub stray-more : (q : Inquiry) (es : List AskingEvent) (at : ℕ) (o : List ℕ) → matches q.message q.id o ≡ false → matching_arrivals q (es ++ Arrived at o ∷ []) ≡ matching_arrivals q es
stray-more q es at o m = more_events q es (Arrived at o) ∙ (ap (λ (b : Bool). matching_arrivals q es ++ cond b (o ∷ []) []) m ∙ append-nil (matching_arrivals q es))

pub arrived-more : (q : Inquiry) (es : List AskingEvent) (at : ℕ) (o : List ℕ) → matching_arrivals q (es ++ Arrived at o ∷ []) ≡ matching_arrivals q es ++ cond (matches q.message q.id o) (o ∷ []) []
arrived-more q es at o = more_events q es (Arrived at o)

pub ticked-same : (q : Inquiry) (es : List AskingEvent) (at : ℕ) → matching_arrivals q (es ++ Tick at ∷ []) ≡ matching_arrivals q es
ticked-same q es at = more_events q es (Tick at) ∙ append-nil (matching_arrivals q es)

-- ---- ticks

due-more : (timeout last : ℕ) (ats : List ℕ) (at : ℕ) → due timeout last (ats ++ at ∷ []) ≡ due timeout last ats ++ cond (is_due timeout (last_from last (due timeout last ats)) at) (at ∷ []) []
due-more timeout last [] at = refl
due-more timeout last (a ∷ ats) at =
    elim (is_due timeout last a) as (λ (d : Bool). cond d (a ∷ due timeout a (ats ++ at ∷ [])) (due timeout last (ats ++ at ∷ []))
    ≡ cond d (a ∷ due timeout a ats) (due timeout last ats) ++ cond (is_due timeout (last_from last (cond d (a ∷ due timeout a ats) (due timeout last ats))) at) (at ∷ []) []) [
      | true ↦ ap (λ (r : List ℕ). a ∷ r) (due-more timeout a ats at)
      | false ↦ due-more timeout last ats at
    ]

pub arrived-same : (q : Inquiry) (es : List AskingEvent) (at : ℕ) (o : List ℕ) → due_ticks q (es ++ Arrived at o ∷ []) ≡ due_ticks q es
arrived-same q es at o = ap (due q.timeout q.at) (filter_map-append moment_of_tick es (Arrived at o ∷ []) ∙ append-nil (filter_map moment_of_tick es))

pub ticked-more : (q : Inquiry) (es : List AskingEvent) (at : ℕ) → due_ticks q (es ++ Tick at ∷ []) ≡ due_ticks q es ++ cond (is_due q.timeout (last_from q.at (due_ticks q es)) at) (at ∷ []) []
ticked-more q es at = ap (due q.timeout q.at) (filter_map-append moment_of_tick es (Tick at ∷ [])) ∙ due-more q.timeout q.at (filter_map moment_of_tick es) at

pub last-more : (at : ℕ) (ats : List ℕ) (next : ℕ) → last_from at (ats ++ next ∷ []) ≡ next
last-more at [] next = refl
last-more at (a ∷ ats) next = last-more a ats next
