-- What a seat was shown is the state after a part of its history, in which a version has one pair of configurations.
use Rattle.std.proofs.Common.{◌≡◌, ◌≤◌, ◌⊎◌, ◌+◌, Bool, true, false, if◌then◌else◌, List, [], ◌∷◌, ◌++◌, refl, sym, ◌∙◌, ap, subst, inl, inr, ⊎_elim, arith, append_assoc}
use Rattle.dns_events.specs.declared.look.Look.{Look as State}
use Rattle.dns_admission.specs.declared.call.Call.{Call}
use Rattle.dns_admission.specs.declared.call.Call.TheVariants.{Admit, Release, Reconfigure, Shutdown, Look}
use Rattle.dns_admission.specs.declared.call.Reply.{Reply}
use Rattle.dns_book.specs.declared.history.Entry.{Entry}
use Rattle.dns_book.specs.declared.history.Known.{Known}
use Rattle.dns_admission.specs.Machine.{state_after, has_slot, has_version, admitted, replaced}
use Rattle.dns_book.specs.History.{entry, states_after, but_last}
use Rattle.dns_book.specs.Words.{HasConfigs}
use Rattle.dns_book.specs.Seats.{Called, state_met}
use Rattle.dns_book.specs.Rule.{WasShown}
use Rattle.dns_book.proofs.Names.{but_last-snoc}

-- a call leaves version and configurations, or begins a version
abbrev pub GoesTo : State → State → Type 0
GoesTo s t = ((t.version ≡ s.version) × HasConfigs s t) ⊎ (t.version ≡ s.version + 1)

stays : (s : State) → GoesTo s s
stays s = inl (refl, record { dgram = refl; stream = refl })

either_goes : (b : Bool) (s x y : State) → GoesTo s x → GoesTo s y → GoesTo s (if b then x else y)
either_goes true s x y a b = a
either_goes false s x y a b = b

call_goes : (s : State) (c : Call) → GoesTo s (state_after s c)
call_goes s Admit = either_goes s.closed s s (if has_slot s then admitted s else s) (stays s) (either_goes (has_slot s) s (admitted s) s (inl (refl, record { dgram = refl; stream = refl })) (stays s))
call_goes s Release = inl (refl, record { dgram = refl; stream = refl })
call_goes s (Reconfigure d t) = either_goes s.closed s s (if has_version s then replaced s d t else s) (stays s) (either_goes (has_version s) s (replaced s d t) s (inr refl) (stays s))
call_goes s Shutdown = inl (refl, record { dgram = refl; stream = refl })
call_goes s Look = stays s

no_earlier : (s : State) (es : List Entry) → s.version ≤ (states_after s es).version
no_earlier s [] = omega arith
no_earlier s (e ∷ es) =
    let t : State = state_after s e.call in
    let l : t.version ≤ (states_after t es).version = no_earlier t es in
    ⊎_elim (λ (a : (t.version ≡ s.version) × HasConfigs s t). let v = a.0 in omega (arith, l, v)) (λ (b : t.version ≡ s.version + 1). omega (arith, l, b)) (call_goes s e.call)

one_pair : (s : State) (es : List Entry) → s.version ≡ (states_after s es).version → HasConfigs s (states_after s es)
one_pair s [] v = record { dgram = refl; stream = refl }
one_pair s (e ∷ es) v =
    let t : State = state_after s e.call in
    ⊎_elim
    (λ (a : (t.version ≡ s.version) × HasConfigs s t). let h : HasConfigs t (states_after t es) = one_pair t es (a.0 ∙ v) in record { dgram = a.1.dgram ∙ h.dgram; stream = a.1.stream ∙ h.stream })
    (λ (b : t.version ≡ s.version + 1). let l : t.version ≤ (states_after t es).version = no_earlier t es in absurd (omega (arith, l, v, b)))
    (call_goes s e.call)

states_after-both : (s : State) (xs ys : List Entry) → states_after s (xs ++ ys) ≡ states_after (states_after s xs) ys
states_after-both s [] ys = refl
states_after-both s (x ∷ xs) ys = states_after-both (state_after s x.call) xs ys

-- the state that a call met
pub shown_now : (at : State) (k k' : Known) (c : Call) (r : Reply) → Called k c r k' → state_met k' ≡ at → WasShown at k'.opening k'.seen
shown_now at k k' c r h met = record {
  before = but_last k'.seen;
  began = (entry k.name c r ∷ [], h.seen.1 ∙ ap (λ (l : List Entry). l ++ entry k.name c r ∷ []) (sym (ap but_last h.seen.1 ∙ but_last-snoc (k.seen ++ h.seen.0) (entry k.name c r))));
  is = sym met;
}

-- the state that a call met lies after each that was shown
met_behind : (s : State) (k k' : Known) (c : Call) (r : Reply) (h : Called k c r k') (w : WasShown s k.opening k.seen) → state_met k' ≡ states_after s (w.began.0 ++ h.seen.0)
met_behind s k k' c r h w =
    ap (λ (q : State). states_after q (but_last k'.seen)) h.same_book
    ∙ ap (λ (l : List Entry). states_after k.opening l) (ap but_last h.seen.1 ∙ but_last-snoc (k.seen ++ h.seen.0) (entry k.name c r) ∙ ap (λ (l : List Entry). l ++ h.seen.0) w.began.1 ∙ append_assoc w.before w.began.0 h.seen.0)
    ∙ states_after-both k.opening w.before (w.began.0 ++ h.seen.0)
    ∙ ap (λ (q : State). states_after q (w.began.0 ++ h.seen.0)) (sym w.is)

pub met_configs : (s at : State) (k k' : Known) (c : Call) (r : Reply) → WasShown s k.opening k.seen → Called k c r k' → state_met k' ≡ at → s.version ≡ at.version → HasConfigs s at
met_configs s at k k' c r w h met v =
    let is : states_after s (w.began.0 ++ h.seen.0) ≡ at = sym (met_behind s k k' c r h w) ∙ met in
    subst (λ (t : State). HasConfigs s t) is (one_pair s (w.began.0 ++ h.seen.0) (v ∙ ap (λ (t : State). t.version) (sym is)))
