-- A Turn of what is kept of an exchange's one request.
use Rattle.dns_session.specs.Serving.{Serving}
use Rattle.std.proofs.Common.{◌≡◌, ℕ, List, [], Option, Some, None, Bool, true, false, refl, ap, ◌∙◌, subst}
use Rattle.std.specs.Prelude.{option_map, slice_get}
use Rattle.dns_base.specs.Msg.{Msg}
use Rattle.dns_base.specs.Wire.{wire}
use Rattle.dns_framing.specs.Answer.{Answer}
use Rattle.dns_events.specs.declared.event.Event.{Event}
use Rattle.dns_events.specs.declared.event.EventKind.TheVariants.{Turn}
use Rattle.dns_events.specs.declared.event.Output.{Output}
use Rattle.dns_framing.specs.Polls.{PolledRequest}
use Rattle.dns_session.specs.Datagrams.{datagrams_to}
use Rattle.dns_session.specs.News.{wide}
use Rattle.dns_session.specs.IsPolled.{IsPolled}
use Rattle.dns_session.specs.Rule.{rule, exchange_rule}
use Rattle.dns_session.specs.Slate.{Effect}
use Rattle.dns_session.specs.Goings.{SpentWith, Exchanges, TurnsAs, unless_done}
use Rattle.dns_session.specs.Stands.{IsExchange}
use Rattle.dns_session.specs.Turns.{exchange_turn, sent_at_once}
use Rattle.dns_session.specs.declared.kept.KeptRequest.{KeptRequest}
use Rattle.dns_session.proofs.Exchanged.{in_exchange, in_exchanges}
use Rattle.dns_session.proofs.Stepped.{exchange_spent}
use Rattle.dns_session.proofs.Turns.{exchange_turned, none_exchanged}

datagrams_are : (client : ℕ) (x : Option Msg) → datagrams_to client (option_map wire x) ≡ sent_at_once client x
datagrams_are client None = refl
datagrams_are client (Some m) = refl

module _ {R F : Type 0} (answer : PolledRequest F R → ℕ → Answer) where
  module _ (answers : Serving) where
    by_turn : (number : ℕ) (old new : Option (KeptRequest F R)) (outs : List Output) (e : Event) → e.kind ≡ Turn 0
        → Exchanges answer answers number old new outs (exchange_rule answers (Turn 0)) → Exchanges answer answers number old new outs (rule answers e)
    by_turn number old new outs e k f = in_exchanges answer answers number old new outs e (rw k f)

    pub turned_kept : (q q' : KeptRequest F R) (x : Option Msg) (octets : Option (List ℕ)) (done : Bool) → octets ≡ option_map wire x → IsPolled answer q x done q' → TurnsAs answer answers (Some q) (unless_done done q') octets
    turned_kept q q' x octets done o p number e k =
        by_turn number (Some q) (unless_done done q') (datagrams_to number octets) e k
        (exchange_turned answer answers number q q' x done (datagrams_to number octets) p (ap (datagrams_to number) o ∙ datagrams_are number x))

    pub turned_none : TurnsAs answer answers None None None
    turned_none number e k = by_turn number None None [] e k (none_exchanged answer answers number)

    pub ends_done : (done : Bool) (q : KeptRequest F R) → SpentWith answer answers done (unless_done done q)
    ends_done true q number s h = exchange_spent answer answers None number s h
    ends_done false q number s h = exchange_spent answer answers (Some q) number s h

    -- by the request that is polled
    pub of_turn : (number : ℕ) (old new : Option (KeptRequest F R)) (octets : Option (List ℕ)) (outs : List Output) → TurnsAs answer answers old new octets → outs ≡ datagrams_to number octets
        → Exchanges answer answers number old new outs (λ s. exchange_turn answers 0 (slice_get s.requests 0) s)
    of_turn number old new octets outs t o s h =
        let e : Event = wide (Turn 0) in
        let f = t number e refl s h in
        let P : Effect → Type 0 = λ u. (datagrams_to number octets ≡ u.1) × IsExchange answer answers number new u.0 in
        let g : P (exchange_turn answers 0 (slice_get s.requests 0) s) = subst P (in_exchange answers e s.phase s h.phase) f in
        (o ∙ g.0, g.1)
