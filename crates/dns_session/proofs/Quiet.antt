-- A client that is spent is told nothing, and stays so.
use Rattle.dns_session.specs.Serving.{Serving}
use Rattle.std.proofs.Common.{◌≡◌, ℕ, zero, suc, List, [], ◌∷◌, Bool, true, false, refl, sym, subst}
use Rattle.std.specs.Prelude.{slice_get, ◌&&◌}
use Rattle.std.specs.List.{list_all}
use Rattle.dns_events.specs.declared.event.Event.{Event}
use Rattle.dns_events.specs.declared.event.EventKind.{EventKind}
use Rattle.dns_events.specs.declared.event.EventKind.TheVariants.{Turn, Release}
use Rattle.dns_session.specs.Rule.{rule, in_phase, exchange_rule, closed_rule}
use Rattle.dns_session.specs.Slate.{Slate, SlateRequest, Effect, Phase, Exchange, Closed, Conf, conf_rule, with_conf}
use Rattle.dns_session.specs.Spent.{is_spent, is_spent_in}
use Rattle.dns_session.specs.Turns.{exchange_turn}

first_true : (b c : Bool) → (b && c) ≡ true → b ≡ true
first_true true c h = refl
first_true false c h = h

second_true : (b c : Bool) → (b && c) ≡ true → c ≡ true
second_true true c h = h
second_true false c h = absurd (cc)

abbrev all_are_done : List SlateRequest → Bool
all_are_done rs = list_all (λ (r : SlateRequest). r.done) rs

-- a request that is done isn't polled
rests : (answers : Serving) (j k : ℕ) (rs : List SlateRequest) (s : Slate) → all_are_done rs ≡ true → exchange_turn answers j (slice_get rs k) s ≡ (s, [])
rests answers j k [] s h = refl
rests answers j zero (r ∷ rs) s h = rw (first_true r.done (all_are_done rs) h) refl
rests answers j (suc k) (r ∷ rs) s h = rests answers j k rs s (second_true r.done (all_are_done rs) h)

-- nothing is told, and the client is spent
abbrev IsQuiet : Effect → Type 0
IsQuiet t = (t.1 ≡ []) × (is_spent t.0 ≡ true)

quiet_exchange : (answers : Serving) (kind : EventKind) (s : Slate) → s.phase ≡ Exchange → all_are_done s.requests ≡ true → IsQuiet (exchange_rule answers kind s)
quiet_exchange answers (Turn k) s p h = subst IsQuiet (sym (rests answers k k s.requests s h)) (refl, rw p h)
quiet_exchange answers _ s p h = (refl, rw p h)

quiet_closed : (kind : EventKind) (s : Slate) → s.phase ≡ Closed → s.freed ≡ true → IsQuiet (closed_rule kind s)
quiet_closed Release s p h = (refl, rw p refl)
quiet_closed _ s p h = (refl, rw p h)

quiet_in : (answers : Serving) (e : Event) (p : Phase) (conf : Conf) (s : Slate) → s.phase ≡ p → is_spent_in p s ≡ true → IsQuiet (in_phase answers e p (with_conf conf s))
quiet_in answers e Exchange conf s p h = quiet_exchange answers e.kind (with_conf conf s) p h
quiet_in answers e Closed conf s p h = quiet_closed e.kind (with_conf conf s) p h
quiet_in answers e _ conf s p h = absurd (cc)

pub is_quiet : (answers : Serving) (e : Event) (s : Slate) → is_spent s ≡ true → IsQuiet (rule answers e s)
is_quiet answers e s h = quiet_in answers e s.phase (conf_rule e.kind s.conf) s refl h
