-- Events that are noted.
use Rattle.std.proofs.Common.{◌≡◌, ℕ, List, [], ◌∷◌, ◌++◌, refl, sym, ◌∙◌, ap, append-nil}
use Rattle.dns_events.specs.declared.event.Event.{Event}
use Rattle.dns_events.specs.declared.event.EventKind.{EventKind}
use Rattle.dns_recorder.specs.Clocks.{ClockReading, Timed, write_count}
use Rattle.dns_recorder.specs.Notes.{NotedMoment, NotedKinds}
use Rattle.dns_recorder.specs.Woven.{kinds}
use Rattle.dns_recorder.proofs.EventTimes.{timed_one, timed_noted}

pub kinds_append : (es fs : List Event) → kinds (es ++ fs) ≡ kinds es ++ kinds fs
kinds_append [] fs = refl
kinds_append (e ∷ es) fs = ap (λ t. e.kind ∷ t) (kinds_append es fs)

pub noted_none : (n : List Event) → NotedKinds [] n n
noted_none n = record { events = []; kinds_are = refl; nobodys = tt; noted = sym (append-nil n) }

pub noted_moment : (event : Event) (client : ℕ) (kind : EventKind) (n n' : List Event) → event.client ≡ client → event.kind ≡ kind → n' ≡ n ++ event ∷ [] → NotedMoment client kind event.at n n'
noted_moment event client kind n n' c k e =
    let same : event ≡ record { at = event.at; secs = event.secs; client = client; kind = kind } = rw (← c, ← k) refl in
    record { secs = event.secs; noted = e ∙ ap (λ (x : Event). n ++ x ∷ []) same }

pub noted_kind : (at : ℕ) (kind : EventKind) (n n' : List Event) → NotedMoment 0 kind at n n' → NotedKinds (kind ∷ []) n n'
noted_kind at kind n n' m = record { events = record { at = at; secs = m.secs; client = 0; kind = kind } ∷ []; kinds_are = refl; nobodys = (refl, tt); noted = m.noted }

pub timed_moment : (event : Event) (kind : EventKind) (n n' : List Event) (c c' : List ClockReading) → write_count kind ≡ 0 → event.kind ≡ kind → c' ≡ c ++ (event.at, event.secs) ∷ [] → n' ≡ n ++ event ∷ [] → Timed n n' 0 0 c c'
timed_moment event kind n n' c c' w k h e = timed_noted event n n' 0 0 c c' (timed_one event 0 0 c c' h (rw k w) refl) e
