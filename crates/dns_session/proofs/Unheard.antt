-- Octets that came, and writes, change nothing of a client that is no open connection.
use Rattle.dns_session.specs.Serving.{Serving}
use Rattle.std.proofs.Common.{◌≡◌, ℕ, List, [], refl, sym, subst}
use Rattle.dns_framing.specs.Answer.{Answer}
use Rattle.dns_framing.specs.Polls.{PolledRequest}
use Rattle.dns_events.specs.declared.event.Event.{Event}
use Rattle.dns_events.specs.declared.event.EventKind.{EventKind}
use Rattle.dns_events.specs.declared.event.EventKind.TheVariants.{Piece, Write}
use Rattle.dns_events.specs.declared.event.Why.{Why}
use Rattle.dns_session.specs.Rule.{rule, in_phase, exchange_rule, flushing_rule, closed_rule}
use Rattle.dns_session.specs.Slate.{Slate, Effect, Phase, Exchange, Flushing, Closed, conf_rule, with_conf}
use Rattle.dns_session.specs.Goings.{StateGoes}
use Rattle.dns_session.specs.Stands.{IsExchange, IsFlushing, IsClosed}
use Rattle.dns_session.specs.declared.client.State.{State}
use Rattle.dns_session.specs.declared.client.State.TheVariants.{Exchange as Is_exchange, Open as Is_open, Flushing as Is_flushing, Closed as Is_closed, Lost as Is_lost}
use Rattle.dns_session.specs.declared.connection.OpenConnection.{OpenConnection}
use Rattle.dns_session.specs.declared.flushing.FlushingConnection.{FlushingConnection}

exchange_piece : (answers : Serving) (k : EventKind) (o : List ℕ) (s : Slate) → k ≡ Piece o → exchange_rule answers k (with_conf (conf_rule k s.conf) s) ≡ (s, [])
exchange_piece answers k o s is = rw is refl

flushing_piece : (why : Why) (k : EventKind) (o : List ℕ) (s : Slate) → k ≡ Piece o → flushing_rule why k (with_conf (conf_rule k s.conf) s) ≡ (s, [])
flushing_piece why k o s is = rw is refl

closed_piece : (k : EventKind) (o : List ℕ) (s : Slate) → k ≡ Piece o → closed_rule k (with_conf (conf_rule k s.conf) s) ≡ (s, [])
closed_piece k o s is = rw is refl

exchange_write : (answers : Serving) (k : EventKind) (took : ℕ) (s : Slate) → k ≡ Write took → exchange_rule answers k (with_conf (conf_rule k s.conf) s) ≡ (s, [])
exchange_write answers k took s is = rw is refl

closed_write : (k : EventKind) (took : ℕ) (s : Slate) → k ≡ Write took → closed_rule k (with_conf (conf_rule k s.conf) s) ≡ (s, [])
closed_write k took s is = rw is refl

-- in a phase in which an event changes nothing, what holds of the slate still does
rests_in : (answers : Serving) (e : Event) (s : Slate) (p : Phase) (A : Slate → Type 0) → s.phase ≡ p
    → in_phase answers e p (with_conf (conf_rule e.kind s.conf) s) ≡ (s, []) → A s → ([] ≡ (rule answers e s).1) × A (rule answers e s).0
rests_in answers e s p A phase idle holds =
    let all : rule answers e s ≡ (s, []) = subst (λ (q : Phase). in_phase answers e q (with_conf (conf_rule e.kind s.conf) s) ≡ (s, [])) (sym phase) idle in
    subst (λ (t : Effect). ([] ≡ t.1) × A t.0) (sym all) (refl, holds)

module _ {W R F : Type 0} (answer : PolledRequest F R → ℕ → Answer) (answers : Serving) where
  pub piece_unheard : (number : ℕ) (state : State W R F) (e : Event) (o : List ℕ) → ((c : OpenConnection W R F) → state ≡ Is_open c → ⊥)
      → e.kind ≡ Piece o → StateGoes answer answers number state state [] (rule answers e)
  piece_unheard number (Is_open c) e o other is = absurd (other c refl)
  piece_unheard number (Is_exchange x) e o other is = λ s h.
      rests_in answers e s Exchange (λ (t : Slate). IsExchange answer answers number x t) h.phase (exchange_piece answers e.kind o s is) h
  piece_unheard number (Is_flushing c) e o other is = λ s h.
      rests_in answers e s (Flushing c.why) (λ (t : Slate). IsFlushing number c t) h.phase (flushing_piece c.why e.kind o s is) h
  piece_unheard number (Is_closed freed) e o other is = λ s h.
      rests_in answers e s Closed (λ (t : Slate). IsClosed number freed t) h.phase (closed_piece e.kind o s is) h
  piece_unheard number Is_lost e o other is = λ s h. absurd h

  pub write_unheard : (number : ℕ) (state : State W R F) (e : Event) (took : ℕ) → ((c : OpenConnection W R F) → state ≡ Is_open c → ⊥)
      → ((c : FlushingConnection) → state ≡ Is_flushing c → ⊥) → e.kind ≡ Write took → StateGoes answer answers number state state [] (rule answers e)
  write_unheard number (Is_open c) e took opens flushes is = absurd (opens c refl)
  write_unheard number (Is_exchange x) e took opens flushes is = λ s h.
      rests_in answers e s Exchange (λ (t : Slate). IsExchange answer answers number x t) h.phase (exchange_write answers e.kind took s is) h
  write_unheard number (Is_flushing c) e took opens flushes is = absurd (flushes c refl)
  write_unheard number (Is_closed freed) e took opens flushes is = λ s h.
      rests_in answers e s Closed (λ (t : Slate). IsClosed number freed t) h.phase (closed_write e.kind took s is) h
  write_unheard number Is_lost e took opens flushes is = λ s h. absurd h
