-- What is kept of one client, by its slate: after an event of it, and after the event by which it begins.
use Rattle.dns_session.specs.Serving.{Serving}
use Rattle.std.proofs.Common.{◌≡◌, ℕ, List, [], Option, Some, None, Bool, true, false, refl, ap, sym, ◌∙◌}
use Rattle.std.specs.Prelude.{if◌then◌else◌}
use Rattle.dns_service.specs.Answer.{Answer}
use Rattle.dns_events.specs.declared.event.Event.{Event}
use Rattle.dns_events.specs.declared.event.Output.{Output}
use Rattle.dns_service.specs.declared.polled.PolledRequest.{PolledRequest}
use Rattle.dns_session.specs.Slate.{Slate, Effect}
use Rattle.dns_session.specs.Rule.{rule}
use Rattle.dns_session.specs.Spent.{is_spent}
use Rattle.dns_session.specs.Stands.{Stands, StandsIn}
use Rattle.dns_session.specs.declared.client.ClientCore.{ClientCore}
use Rattle.dns_session.specs.declared.client.State.{State}
use Rattle.dns_session.specs.declared.client.State.TheVariants.{Exchange as Is_exchange, Open as Is_open, Flushing as Is_flushing, Closed as Is_closed, Lost as Is_lost}
use Rattle.dns_core.specs.Out.{is_unused}
use Rattle.dns_core.specs.Serves.{IsAt, Holds, Steps}
use Rattle.dns_core.proofs.Spent.{spent_idle, spent_kept, unused_unspent}

pub nothing_either_way : (b : Bool) (os : List Output) → os ≡ [] → [] ≡ (if b then os else [])
nothing_either_way true os h = sym h
nothing_either_way false os h = refl

none_kept : {X : Type 0} (finished : Bool) (w : Option X) → w ≡ None → (if finished then None else w) ≡ None
none_kept true w e = refl
none_kept false w e = e

pub none_at : {W R F : Type 0} (o : Option (ClientCore W R F)) (v : ℕ) → o ≡ None → IsAt o v
none_at None v is = tt
none_at (Some core) v is = cc

-- a core that enters, unless it is finished, is at its version
pub entered_at : {W R F : Type 0} (o : Option (ClientCore W R F)) (core : ClientCore W R F) (v : ℕ) (finished : Bool) → core.version ≡ v → o ≡ None → IsAt (if finished then o else Some core) v
entered_at o core v true is none = none_at o v none
entered_at o core v false is none = is

module _ {W R F : Type 0} (answer : PolledRequest F R → ℕ → Answer) (answers : Serving) where
  -- what one client's event says
  pub says : (o w : Option (ClientCore W R F)) (b : Bool) (e : Event) (outs : List Output) (finished freed : Bool) (s : Slate) → Steps answer answers o e outs finished freed w → Holds answer answers o b s → outs ≡ (if b then (rule answers e s).1 else [])
  says None w true e outs finished freed s k h = k.0 ∙ sym (ap (λ (t : Effect). t.1) (spent_idle answers e s h))
  says None w false e outs finished freed s k h = k.0
  says (Some core) None true e outs finished freed s k h = absurd k
  says (Some core) (Some new) true e outs finished freed s k h = (k.0 s h.0).0
  says (Some core) w false e outs finished freed s k h = absurd h

  pub none_holds : (o : Option (ClientCore W R F)) (s : Slate) → o ≡ None → is_spent s ≡ true → Holds answer answers o true s
  none_holds None s is h = h
  none_holds (Some core) s is h = cc

  pub none_stands : (o : Option (ClientCore W R F)) (s : Slate) → o ≡ None → Holds answer answers o false s
  none_stands None s is = tt
  none_stands (Some core) s is = cc

  -- a core enters, unless it is finished
  pub entered : (o : Option (ClientCore W R F)) (core : ClientCore W R F) (s : Slate) (finished : Bool) → finished ≡ is_spent s → Stands answer answers core s → o ≡ None → Holds answer answers (if finished then o else Some core) true s
  entered o core s true is h none = none_holds o s none (sym is)
  entered o core s false is h none = (h, sym is)

  -- what one client's event leaves
  pub leaves : (o w : Option (ClientCore W R F)) (b : Bool) (e : Event) (outs : List Output) (finished freed : Bool) (s : Slate) → Steps answer answers o e outs finished freed w → Holds answer answers o b s → Holds answer answers (if finished then None else w) b (rule answers e s).0
  leaves None w true e outs finished freed s k h = none_holds (if finished then None else w) (rule answers e s).0 (none_kept finished w k.3) (spent_kept answers e s h)
  leaves None w false e outs finished freed s k h = none_stands (if finished then None else w) (rule answers e s).0 (none_kept finished w k.3)
  leaves (Some core) None true e outs finished freed s k h = absurd k
  leaves (Some core) (Some new) true e outs finished freed s k h =
      let f = k.0 s h.0 in
      entered None new (rule answers e s).0 finished (k.1 (rule answers e s).0 f.1).over f.1 refl
  leaves (Some core) w false e outs finished freed s k h = absurd h

  -- of an unused number nothing is kept, and it is no member's
  used_state : (n : ℕ) (state : State W R F) (s : Slate) → StandsIn answer answers n state s → is_unused s.phase ≡ false
  used_state n (Is_exchange kept) s h = ap is_unused h.phase
  used_state n (Is_open c) s h = ap is_unused h.phase
  used_state n (Is_flushing c) s h = ap is_unused h.phase
  used_state n (Is_closed freed) s h = ap is_unused h.phase
  used_state n Is_lost s h = absurd h

  pub nothing_held : (o : Option (ClientCore W R F)) (b : Bool) (s : Slate) → is_unused s.phase ≡ true → Holds answer answers o b s → (o ≡ None) × (b ≡ false)
  nothing_held None true s u h = let n = unused_unspent s u in cc
  nothing_held None false s u h = (refl, refl)
  nothing_held (Some core) true s u h = let n = used_state core.client core.state s h.0 in cc
  nothing_held (Some core) false s u h = absurd h
