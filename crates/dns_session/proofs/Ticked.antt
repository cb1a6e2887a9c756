-- A look at the timer of a connection.
use Rattle.dns_session.specs.Serving.{Serving}
use Rattle.std.proofs.Common.{◌≡◌, ◌≢◌, ℕ, [], Bool, true, false, refl, ap, sym, ◌∙◌, subst}
use Rattle.std.specs.Prelude.{◌==◌, ◌&&◌, if◌then◌else◌}
use Rattle.std.proofs.Math.Bool.{and-false}
use Rattle.std.proofs.lemmas.Bool.{ne_eqb}
use Rattle.dns_framing.specs.Answer.{Answer}
use Rattle.dns_events.specs.declared.event.Why.TheVariants.{Idle}
use Rattle.dns_framing.specs.Polls.{PolledRequest}
use Rattle.dns_session.specs.Connections.{close, in_transaction, tick}
use Rattle.dns_session.specs.Slate.{Slate, Effect}
use Rattle.dns_session.specs.Goings.{Leads, outputs_of, state_behind}
use Rattle.dns_session.specs.Stands.{IsOpen, StandsIn}
use Rattle.dns_session.specs.Timers.{is_expired}
use Rattle.dns_session.specs.declared.client.State.TheVariants.{Open as Is_open}
use Rattle.dns_session.specs.declared.connection.OpenConnection.{OpenConnection}
use Rattle.dns_session.specs.declared.outcome.Outcome.TheVariants.{Nothing, Ends}
use Rattle.dns_session.proofs.Stepped.{closes}
use Rattle.dns_session.proofs.Transactions.{none_passes}

module _ {W R F : Type 0} (answer : PolledRequest F R → ℕ → Answer) (answers : Serving) where
  -- by what the connection keeps
  ticked : (c : OpenConnection W R F) (at client : ℕ) (s : Slate) → IsOpen answer answers client c s
      → tick at s ≡ (if is_expired c.timer c.invoker.idle_timeout at && (c.transactions == 0) then close Idle s else (s, []))
  ticked c at client s h =
      ap (λ (b : Bool). if is_expired s.reset_at s.connection.idle_timeout at && b then close Idle s else (s, [])) (none_passes in_transaction s.requests ∙ ap (λ (n : ℕ). n == 0) (sym h.requests.held_open))
      ∙ (ap (λ (n : ℕ). if is_expired n s.connection.idle_timeout at && (c.transactions == 0) then close Idle s else (s, [])) (sym h.timer)
      ∙ ap (λ (n : ℕ). if is_expired c.timer n at && (c.transactions == 0) then close Idle s else (s, [])) (sym h.idle_timeout))

  pub ticks_out : (c : OpenConnection W R F) (at : ℕ) → c.transactions ≡ 0 → is_expired c.timer c.invoker.idle_timeout at ≡ true → Leads answer answers c c (Ends Idle) (λ s. tick at s)
  ticks_out c at none expired client s h =
      let e : tick at s ≡ close Idle s =
      ticked c at client s h
      ∙ (ap (λ (b : Bool). if b && (c.transactions == 0) then close Idle s else (s, [])) expired
      ∙ ap (λ (n : ℕ). if n == 0 then close Idle s else (s, [])) none) in
      let P : Effect → Type 0 = λ t. (outputs_of client (Ends Idle) ≡ t.1) × StandsIn answer answers client (state_behind (Is_open c) (Ends Idle)) t.0 in
      subst P (sym e) (closes answer answers c Idle client s h)

  ticks_on : (c : OpenConnection W R F) (at : ℕ) → (is_expired c.timer c.invoker.idle_timeout at && (c.transactions == 0)) ≡ false → Leads answer answers c c Nothing (λ s. tick at s)
  ticks_on c at rests client s h =
      let e : tick at s ≡ (s, []) = ticked c at client s h ∙ ap (λ (b : Bool). if b then close Idle s else (s, [])) rests in
      let P : Effect → Type 0 = λ t. (outputs_of client Nothing ≡ t.1) × IsOpen answer answers client c t.0 in
      subst P (sym e) (refl, h)

  -- it was not idle for that long
  pub ticks_early : (c : OpenConnection W R F) (at : ℕ) → is_expired c.timer c.invoker.idle_timeout at ≡ false → Leads answer answers c c Nothing (λ s. tick at s)
  ticks_early c at early = ticks_on c at (ap (λ (b : Bool). b && (c.transactions == 0)) early)

  -- a transaction holds it open
  pub ticks_busy : (c : OpenConnection W R F) (at : ℕ) → c.transactions ≢ 0 → Leads answer answers c c Nothing (λ s. tick at s)
  ticks_busy c at busy = ticks_on c at (ap (λ (b : Bool). is_expired c.timer c.invoker.idle_timeout at && b) (ne_eqb c.transactions 0 busy) ∙ and-false (is_expired c.timer c.invoker.idle_timeout at))
