-- A book is closed if it began so or a shutdown stands in its history.
use Rattle.std.proofs.Common.{◌≡◌, ◌≢◌, ◌⊎◌, ◌↔◌, Bool, true, false, if◌then◌else◌, List, [], ◌∷◌, refl, sym, ◌∙◌, subst, inl, inr, ⊎_elim, true≢false}
use Rattle.dns_events.specs.declared.look.Look.{Look as State}
use Rattle.dns_admission.specs.declared.admission.Admission.{Admission}
use Rattle.dns_admission.specs.declared.admission.Admission.TheVariants.{Admitted, Full, Closed}
use Rattle.dns_admission.specs.declared.call.Call.{Call}
use Rattle.dns_admission.specs.declared.call.Call.TheVariants.{Admit, Release, Reconfigure, Shutdown, Look}
use Rattle.dns_book.specs.declared.history.Entry.{Entry}
use Rattle.dns_book.specs.declared.history.Known.{Known}
use Rattle.dns_admission.specs.Machine.{state_after, has_slot, has_version, admitted, replaced}
use Rattle.dns_book.specs.History.{states_after, but_last}
use Rattle.dns_admission.specs.Admissions.{Admits}
use Rattle.dns_book.specs.Causes.{HasShutdown, WasShutDown}
use Rattle.dns_book.specs.Seats.{state_met}

either_closed : (b : Bool) (s x y : State) → x.closed ≡ s.closed → y.closed ≡ s.closed → (if b then x else y).closed ≡ s.closed
either_closed true s x y a b = a
either_closed false s x y a b = b

-- a call closes the book, or leaves it as it is
call_closes : (s : State) (c : Call) → ((c ≡ Shutdown) × ((state_after s c).closed ≡ true)) ⊎ ((c ≢ Shutdown) × ((state_after s c).closed ≡ s.closed))
call_closes s Admit = inr ((λ is. cc), either_closed s.closed s s (if has_slot s then admitted s else s) refl (either_closed (has_slot s) s (admitted s) s refl refl))
call_closes s Release = inr ((λ is. cc), refl)
call_closes s (Reconfigure d t) = inr ((λ is. cc), either_closed s.closed s s (if has_version s then replaced s d t else s) refl (either_closed (has_version s) s (replaced s d t) s refl refl))
call_closes s Shutdown = inl (refl, refl)
call_closes s Look = inr ((λ is. cc), refl)

closed_by : (s : State) (es : List Entry) → (states_after s es).closed ≡ true → (s.closed ≡ true) ⊎ HasShutdown es
closed_by s [] h = inl h
closed_by s (e ∷ es) h = ⊎_elim
    (λ (t : (e.call ≡ Shutdown) × ((state_after s e.call).closed ≡ true)). inr (inl t.0))
    (λ (t : (e.call ≢ Shutdown) × ((state_after s e.call).closed ≡ s.closed)).
    ⊎_elim (λ (was : (state_after s e.call).closed ≡ true). inl (sym t.1 ∙ was)) (λ (later : HasShutdown es). inr (inr later)) (closed_by (state_after s e.call) es h))
    (call_closes s e.call)

stays_closed : (s : State) (es : List Entry) → (s.closed ≡ true) ⊎ HasShutdown es → (states_after s es).closed ≡ true
stays_closed s [] h = ⊎_elim (λ (was : s.closed ≡ true). was) (λ none. absurd none) h
stays_closed s (e ∷ es) h = stays_closed (state_after s e.call) es (⊎_elim
    (λ (was : s.closed ≡ true). inl (⊎_elim
    (λ (t : (e.call ≡ Shutdown) × ((state_after s e.call).closed ≡ true)). t.1)
    (λ (t : (e.call ≢ Shutdown) × ((state_after s e.call).closed ≡ s.closed)). t.1 ∙ was)
    (call_closes s e.call)))
    (λ later. ⊎_elim
    (λ (here : e.call ≡ Shutdown). inl (⊎_elim
    (λ (t : (e.call ≡ Shutdown) × ((state_after s e.call).closed ≡ true)). t.1)
    (λ (t : (e.call ≢ Shutdown) × ((state_after s e.call).closed ≡ s.closed)). absurd (t.0 here))
    (call_closes s e.call)))
    (λ (rest : HasShutdown es). inr rest)
    later)
    h)

closed_answer : (s : State) (a : Admission) → Admits s a → s.closed ≡ true → a ≡ Closed
closed_answer s (Admitted look) h c = absurd (true≢false (sym c ∙ h.0))
closed_answer s (Full taken limit accepted) h c = absurd (true≢false (sym c ∙ h.0))
closed_answer s Closed h c = refl

pub closed_exactly : (k : Known) (a : Admission) → Admits (state_met k) a → (a ≡ Closed) ↔ WasShutDown k
closed_exactly k a h = (
  (λ is. closed_by k.opening (but_last k.seen) (subst (λ (b : Admission). Admits (state_met k) b) is h)),
  (λ was. closed_answer (state_met k) a h (stays_closed k.opening (but_last k.seen) was)),
)
