-- A slot is asked for a connection: what each answer of the admission leads to.
use Rattle.std.proofs.Common.{◌≡◌, ℕ, List, [], ◌∷◌, ◌++◌, refl, sym, ◌∙◌, subst, append-nil, Result, Ok, Err, ◌⊎◌, inl, inr}
use Rattle.dns_name.specs.declared.address.SocketAddr.{SocketAddr}
use Rattle.dns_name.specs.declared.error.OutOfMemory.{OutOfMemory}
use Rattle.dns_events.specs.declared.look.Look.{Look}
use Rattle.dns_admission.specs.declared.admission.Admission.TheVariants.{Admitted, Full, Closed}
use Rattle.dns_admission.specs.declared.call.Call.TheVariants.{Admit}
use Rattle.dns_admission.specs.declared.call.Reply.TheVariants.{Admission as Answered}
use Rattle.dns_book.specs.Seats.{Called, first_half}
use Rattle.dns_book.specs.Gains.{Gained}
use Rattle.dns_book.specs.declared.history.Known.{Known}
use Rattle.dns_io.specs.Causes.{Observed}
use Rattle.dns_io.specs.Starts.{StartMoves, StartCause}
use Rattle.dns_io.specs.declared.spawner.Start.{Start}
use Rattle.dns_io.specs.declared.spawner.Start.TheVariants.{Started, Failed}
use Rattle.dns_accepts.specs.Accepting.{Caller, if_admitted, halved, admit_entries}
use Rattle.dns_accepts.specs.Arrivals.{AskedOne, GaveSo, StartFaults, arrival_of}
use Rattle.dns_accepts.specs.declared.taking.Arrival.{Arrival}
use Rattle.dns_accepts.specs.declared.taking.Arrival.TheVariants.{WorkStarted, Refused, TurnedAway}
use Rattle.dns_accepts.proofs.GainedLaws.{gained_one, gained_half}
use Rattle.dns_accepts.proofs.ObservedLaws.{tells_map}

-- the admitted seat keeps its first half
half_calls : (from : SocketAddr) (look : Look) (k k1 k' : Known) → Called k Admit (Answered (Admitted look)) k1 → k' ≡ first_half k1 → Gained k (admit_entries k.name (Caller from (Admitted look))) k'
half_calls from look k k1 k' c h = subst (λ (x : Known). Gained k (admit_entries k.name (Caller from (Admitted look))) x) (sym h) (gained_half k _ k1 (gained_one k Admit (Answered (Admitted look)) k1 c))

half_name : (from : SocketAddr) (look : Look) (k k1 k' : Known) → Called k Admit (Answered (Admitted look)) k1 → k' ≡ first_half k1 → k'.name ≡ halved k.name (if_admitted from (Admitted look))
half_name from look k k1 k' c h = rw (h, c.same_name) refl

asked_served : (from : SocketAddr) (now before : Type 0) (look : Look) (k k1 k' : Known) (g g' : List SocketAddr) →
    Called k Admit (Answered (Admitted look)) k1 → k' ≡ first_half k1 → Observed now before (g' ≡ g ++ from ∷ []) → AskedOne (Ok WorkStarted) from now before k k' g g'
asked_served from now before look k k1 k' g g' c h t = record {
  answer = Admitted look;
  calls = half_calls from look k k1 k' c h;
  name = half_name from look k k1 k' c h;
  arrival_is = refl;
  works = t;
}

asked_refused : (from : SocketAddr) (now before : Type 0) (look : Look) (k k1 k' : Known) (g g' : List SocketAddr) →
    Called k Admit (Answered (Admitted look)) k1 → k' ≡ first_half k1 → Observed now before (g' ≡ g ++ from ∷ []) → AskedOne (Ok Refused) from now before k k' g g'
asked_refused from now before look k k1 k' g g' c h t = record {
  answer = Admitted look;
  calls = half_calls from look k k1 k' c h;
  name = half_name from look k k1 k' c h;
  arrival_is = refl;
  works = t;
}

-- memory ran out: the work may have been given
asked_lost : (from : SocketAddr) (now before : Type 0) (look : Look) (k k1 k' : Known) (g g' : List SocketAddr) →
    Called k Admit (Answered (Admitted look)) k1 → k' ≡ first_half k1 → Observed now before ((g' ≡ g ++ from ∷ []) ⊎ (g' ≡ g)) → AskedOne (Err (record {})) from now before k k' g g'
asked_lost from now before look k k1 k' g g' c h t = record {
  answer = Admitted look;
  calls = half_calls from look k k1 k' c h;
  name = half_name from look k k1 k' c h;
  arrival_is = tt;
  works = tells_map now before _ _ (λ s. elim s as (λ z. GaveSo (Err (record {})) (from ∷ []) g g') [ inl same ↦ inl same | inr none ↦ inr (none ∙ sym (append-nil g)) ]) t;
}

-- an admitted connection, by what the start of its work answered
pub asked_started : (arrival : Result Arrival OutOfMemory) (started : Result Start OutOfMemory) (from : SocketAddr) (now before : Type 0) (look : Look) (k k1 k' : Known) (g g' : List SocketAddr) →
    Called k Admit (Answered (Admitted look)) k1 → k' ≡ first_half k1 → Observed now before (StartMoves started from g g') → arrival ≡ arrival_of started → AskedOne arrival from now before k k' g g'
asked_started arrival (Ok Started) from now before look k k1 k' g g' c h t is = rw is (asked_served from now before look k k1 k' g g' c h t)
asked_started arrival (Ok Failed) from now before look k k1 k' g g' c h t is = rw is (asked_refused from now before look k k1 k' g g' c h t)
asked_started arrival (Err e) from now before look k k1 k' g g' c h t is = rw is (asked_lost from now before look k k1 k' g g' c h t)

pub cause_of_start : (arrival : Result Arrival OutOfMemory) (started : Result Start OutOfMemory) (f f' : ℕ) → StartCause started f f' → arrival ≡ arrival_of started → StartFaults arrival f f'
cause_of_start arrival (Ok Started) f f' c is = rw is c
cause_of_start arrival (Ok Failed) f f' c is = rw is c
cause_of_start arrival (Err e) f f' c is = rw is c

-- every other answer turns the connection away
pub asked_full : (from : SocketAddr) (now : Type 0) (taken limit : ℕ) (accepted : _) (k k' : Known) (g : List SocketAddr) →
    Called k Admit (Answered (Full taken limit accepted)) k' → AskedOne (Ok TurnedAway) from now now k k' g g
asked_full from now taken limit accepted k k' g c = record {
  answer = Full taken limit accepted;
  calls = gained_one k Admit (Answered (Full taken limit accepted)) k' c;
  name = c.same_name ∙ sym (append-nil k.name);
  arrival_is = refl;
  works = record { observed = λ n. (n, sym (append-nil g)) };
}

pub asked_closed : (from : SocketAddr) (now : Type 0) (k k' : Known) (g : List SocketAddr) →
    Called k Admit (Answered Closed) k' → AskedOne (Ok TurnedAway) from now now k k' g g
asked_closed from now k k' g c = record {
  answer = Closed;
  calls = gained_one k Admit (Answered Closed) k' c;
  name = c.same_name ∙ sym (append-nil k.name);
  arrival_is = refl;
  works = record { observed = λ n. (n, sym (append-nil g)) };
}
