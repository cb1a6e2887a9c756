-- What a client's state is after a step of a connection.
use Rattle.dns_session.specs.Serving.{Serving}
use Rattle.std.proofs.Common.{◌≡◌, ℕ, List, false, refl, ◌∙◌, subst, sym}
use Rattle.dns_framing.specs.Answer.{Answer}
use Rattle.dns_events.specs.declared.event.Output.{Output}
use Rattle.dns_framing.specs.Polls.{PolledRequest}
use Rattle.dns_session.specs.Slate.{Slate, Effect}
use Rattle.dns_session.specs.Goings.{IsLeft, Leads, LeadsOn, StateGoes, outputs_of, state_behind}
use Rattle.dns_session.specs.Stands.{IsFlushing, StandsIn, state_is_open}
use Rattle.dns_session.specs.declared.client.State.{State}
use Rattle.dns_session.specs.declared.client.State.TheVariants.{Open as Is_open, Flushing as Is_flushing}
use Rattle.dns_session.specs.declared.connection.OpenConnection.{OpenConnection}
use Rattle.dns_session.specs.declared.flushing.FlushingConnection.{FlushingConnection}
use Rattle.dns_session.specs.declared.outcome.Outcome.{Outcome}
use Rattle.dns_session.specs.declared.outcome.Outcome.TheVariants.{Nothing, Written, WrittenLast, WindsUp, Ends}

-- one that isn't the state of an open connection
pub unopened : {W R F : Type 0} (state : State W R F) → ((c : OpenConnection W R F) → state ≡ Is_open c → ⊥) → state_is_open state ≡ false
unopened (Is_open c) other = absurd (other c refl)
unopened _ other = refl

module _ {R F : Type 0} (answer : PolledRequest F R → ℕ → Answer) (answers : Serving) where
  left_stands : (W : Type 0) (number : ℕ) (c : FlushingConnection) (outcome : Outcome) (s : Slate) → IsLeft number c outcome s → StandsIn answer answers {W = W} number (state_behind (Is_flushing c) outcome) s
  left_stands W number c Nothing s h = h
  left_stands W number c (Written m) s h = h
  left_stands W number c (WrittenLast m why) s h = h
  left_stands W number c (WindsUp why) s h = h
  left_stands W number c (Ends why) s h = h

  module _ {W : Type 0} where
    -- one that was open
    pub led_follows : (number : ℕ) (old new : State W R F) (c c' : OpenConnection W R F) (outcome : Outcome) (outs : List Output) (after : Slate → Effect)
        → old ≡ Is_open c → Leads answer answers c c' outcome after
        → outs ≡ outputs_of number outcome → new ≡ state_behind (Is_open c') outcome
        → StateGoes answer answers number old new outs after
    led_follows number old new c c' outcome outs after is leads said state s stands =
        let r = leads number s (subst (λ (x : State W R F). StandsIn answer answers number x s) is stands) in
        (said ∙ r.0, subst (λ (x : State W R F). StandsIn answer answers number x (after s).0) (sym state) r.1)

    -- one that only wrote what waited
    pub left_follows : (number : ℕ) (old new : State W R F) (c c' : FlushingConnection) (outcome : Outcome) (outs : List Output) (after : Slate → Effect)
        → old ≡ Is_flushing c → LeadsOn c c' outcome after
        → outs ≡ outputs_of number outcome → new ≡ state_behind (Is_flushing c') outcome
        → StateGoes answer answers number old new outs after
    left_follows number old new c c' outcome outs after is leads said state s stands =
        let h : IsFlushing number c s = subst (λ (x : State W R F). StandsIn answer answers number x s) is stands in
        let r = leads number s h in
        (said ∙ r.0, subst (λ (x : State W R F). StandsIn answer answers number x (after s).0) (sym state) (left_stands W number c' outcome (after s).0 r.1))
