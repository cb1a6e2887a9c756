-- Events that are neither a Datagram nor a Turn: a Fault, and what all clients hear.
use Rattle.std.proofs.Common.{◌≡◌, ℕ, ◌+◌, List, [], ◌∷◌, ◌++◌, Bool, true, refl, ap, sym, ◌∙◌, append_assoc, append-nil, add-zero, inl, inr}
use Rattle.std.specs.Prelude.{Option, Some, None, nat_eq}
use Rattle.std.proofs.lemmas.Bool.Decides.{eqb_tells}
use Rattle.dns_events.specs.declared.event.Event.{Event}
use Rattle.dns_events.specs.declared.event.EventKind.{EventKind}
use Rattle.dns_events.specs.declared.event.EventKind.TheVariants.{Fault, Reconfigure, Shutdown}
use Rattle.dns_session.specs.Serving.{Serving}
use Rattle.dns_session.specs.Slate.{Effect}
use Rattle.dns_events.specs.declared.settings.Settings.{Settings}
use Rattle.dns_recorder.specs.Own.{is_wide}
use Rattle.dns_recorder.specs.Sent.{conf, slate}
use Rattle.dns_recorder.specs.Woven.{kinds}
use Rattle.dns_recorder.specs.Notes.{AllWide}
use Rattle.dns_dgram_driver.specs.Events.{IsDatagramKind, AllDatagramKinds, packet_in, packets_in, number_in, numbers_in, turn_count, turns_in}
use Rattle.dns_dgram_driver.specs.Order.{fault_events, IsFaultOf}
use Rattle.dns_dgram_driver.specs.Polled.{is_finished, waits_by, MayFollow, waits, TurnsBetween}
use Rattle.dns_dgram_driver.proofs.Members.{kinds_more, conf_more, slate_own, slate_other}
use Rattle.dns_dgram_driver.proofs.SentDatagrams.{fault_idle}
use Rattle.dns_dgram_driver.proofs.ReceivedAndPolled.{packets_in_more, numbers_in_more, turns_in_more, waits_more, turns_more}

abbrev pub IsQuiet : EventKind → Type 0
IsQuiet Fault = Unit {0}
IsQuiet (Reconfigure dgram stream) = Unit {0}
IsQuiet Shutdown = Unit {0}
IsQuiet _ = ⊥

abbrev pub AllQuiet : List Event → Type 0
AllQuiet [] = Unit {0}
AllQuiet (e ∷ es) = IsQuiet e.kind × AllQuiet es

pub wide_quiet : (k : EventKind) → is_wide k ≡ true → IsQuiet k
wide_quiet Fault w = tt
wide_quiet (Reconfigure dgram stream) w = tt
wide_quiet Shutdown w = tt
wide_quiet _ w = cc

pub all_wide_quiet : (es : List Event) → AllWide (kinds es) → AllQuiet es
all_wide_quiet [] w = tt
all_wide_quiet (e ∷ es) w = (wide_quiet e.kind w.0, all_wide_quiet es w.1)

pub faults_quiet : (e : Event) (f : Option Event) → IsFaultOf e f → AllQuiet (fault_events f)
faults_quiet e None h = tt
faults_quiet e (Some v) h = (rw h.0 tt, tt)

-- what stands in quiet events
pub record QuietKind (k : EventKind) : Type 0 where
  pub plain : IsDatagramKind k
  pub packets : packet_in k ≡ []
  pub numbers : (c : ℕ) → number_in c k ≡ []
  pub turns : turn_count k ≡ 0
  pub waits : (own finished waiting : Bool) → waits_by k own finished waiting ≡ waiting
  pub may : (waiting : Bool) → MayFollow k waiting

pub quiet_kind : (k : EventKind) → IsQuiet k → QuietKind k
quiet_kind Fault q = record { plain = tt; packets = refl; numbers = λ c. refl; turns = refl; waits = λ a b w. refl; may = λ w. tt }
quiet_kind (Reconfigure dgram stream) q = record { plain = tt; packets = refl; numbers = λ c. refl; turns = refl; waits = λ a b w. refl; may = λ w. tt }
quiet_kind Shutdown q = record { plain = tt; packets = refl; numbers = λ c. refl; turns = refl; waits = λ a b w. refl; may = λ w. tt }
quiet_kind _ q = absurd q

pub append_two : (q : List Event) (e : Event) (es : List Event) → q ++ e ∷ es ≡ (q ++ e ∷ []) ++ es
append_two q e es = sym (append_assoc q (e ∷ []) es)

pub kinds_append : (q es : List Event) → AllDatagramKinds q → AllQuiet es → AllDatagramKinds (q ++ es)
kinds_append q [] d a = rw (append-nil q) d
kinds_append q (e ∷ es) d a = rw (append_two q e es) (kinds_append (q ++ e ∷ []) es (kinds_more q e d (quiet_kind e.kind a.0).plain) a.1)

-- what one quiet event keeps, several keep
pub quiet_same : {A : Type 0} (X : List Event → A) → ((p : List Event) (v : Event) → AllDatagramKinds p → IsQuiet v.kind → X (p ++ v ∷ []) ≡ X p)
    → (q es : List Event) → AllDatagramKinds q → AllQuiet es → X (q ++ es) ≡ X q
quiet_same X one q [] d a = ap X (append-nil q)
quiet_same X one q (e ∷ es) d a = ap X (append_two q e es) ∙ (quiet_same X one (q ++ e ∷ []) es (kinds_more q e d (quiet_kind e.kind a.0).plain) a.1 ∙ one q e d a.0)

pub packets_quiet : (q es : List Event) → AllDatagramKinds q → AllQuiet es → packets_in (q ++ es) ≡ packets_in q
packets_quiet = quiet_same packets_in (λ p v d k. packets_in_more p v ∙ (ap (λ ls. packets_in p ++ ls) (quiet_kind v.kind k).packets ∙ append-nil (packets_in p)))

pub numbers_quiet : (q es : List Event) → AllDatagramKinds q → AllQuiet es → numbers_in (q ++ es) ≡ numbers_in q
numbers_quiet = quiet_same numbers_in (λ p v d k. numbers_in_more p v ∙ (ap (λ ls. numbers_in p ++ ls) ((quiet_kind v.kind k).numbers v.client) ∙ append-nil (numbers_in p)))

pub turns_quiet : (q es : List Event) → AllDatagramKinds q → AllQuiet es → turns_in (q ++ es) ≡ turns_in q
turns_quiet = quiet_same turns_in (λ p v d k. turns_in_more p v ∙ (ap (λ n. turns_in p + n) (quiet_kind v.kind k).turns ∙ add-zero (turns_in p)))

module _ (answers : Serving) (settings : Settings) where
  pub waits_quiet : (c : ℕ) (q es : List Event) → AllDatagramKinds q → AllQuiet es → waits answers settings c (q ++ es) ≡ waits answers settings c q
  waits_quiet c = quiet_same (waits answers settings c) (λ p v d k. waits_more answers settings c p v
      ∙ (quiet_kind v.kind k).waits (nat_eq v.client c) (is_finished (slate answers settings c (p ++ v ∷ []))) (waits answers settings c p))

  pub between_quiet : (c : ℕ) (q es : List Event) → AllDatagramKinds q → AllQuiet es → TurnsBetween answers settings c q → TurnsBetween answers settings c (q ++ es)
  between_quiet c q [] d a t = rw (append-nil q) t
  between_quiet c q (e ∷ es) d a t = rw (append_two q e es) (between_quiet c (q ++ e ∷ []) es (kinds_more q e d (quiet_kind e.kind a.0).plain) a.1
      (turns_more answers settings c q e t ((quiet_kind e.kind a.0).may (waits answers settings c q))))

  -- a Fault leaves each client as it is
  fault_slate : (c : ℕ) (p : List Event) (v : Event) → AllDatagramKinds p → v.kind ≡ Fault → slate answers settings c (p ++ v ∷ []) ≡ slate answers settings c p
  fault_slate c p v d h = elim (eqb_tells v.client c) [
    | inl e ↦ slate_own answers settings c p v e.1 ∙ ap (λ (t : Effect). t.0) (fault_idle answers settings c p v d h e.1)
    | inr e ↦ slate_other answers settings c p v (rw h refl) e.1
  ]

  pub slate_lost : (c : ℕ) (q : List Event) (e : Event) (f : Option Event) → AllDatagramKinds q → IsFaultOf e f → slate answers settings c (q ++ fault_events f) ≡ slate answers settings c q
  slate_lost c q e None d h = ap (slate answers settings c) (append-nil q)
  slate_lost c q e (Some v) d h = fault_slate c q v d h.0

pub conf_lost : (settings : Settings) (q : List Event) (e : Event) (f : Option Event) → IsFaultOf e f → conf settings (q ++ fault_events f) ≡ conf settings q
conf_lost settings q e None h = ap (conf settings) (append-nil q)
conf_lost settings q e (Some v) h = conf_more settings q v ∙ rw h.0 refl
