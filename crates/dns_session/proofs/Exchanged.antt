-- What an event does to an exchange.
use Rattle.dns_session.specs.Serving.{Serving}
use Rattle.std.proofs.Common.{◌≡◌, ℕ, List, Option, refl, sym, subst}
use Rattle.dns_framing.specs.Answer.{Answer}
use Rattle.dns_events.specs.declared.event.Event.{Event}
use Rattle.dns_events.specs.declared.event.Output.{Output}
use Rattle.dns_framing.specs.Polls.{PolledRequest}
use Rattle.dns_session.specs.Rule.{rule, in_phase, exchange_rule}
use Rattle.dns_session.specs.Slate.{Slate, Effect, Phase, Exchange, Conf, conf_rule, with_conf}
use Rattle.dns_session.specs.Goings.{Exchanges}
use Rattle.dns_session.specs.Stands.{IsExchange}
use Rattle.dns_session.specs.declared.kept.KeptRequest.{KeptRequest}

-- the rule of an exchange
pub in_exchange : (answers : Serving) (e : Event) (p : Phase) (t : Slate) → p ≡ Exchange → in_phase answers e p t ≡ exchange_rule answers e.kind t
in_exchange answers e p t is = rw is refl

module _ {R F : Type 0} (answer : PolledRequest F R → ℕ → Answer) (answers : Serving) where
  -- the server's configurations are others
  met_exchange : (number : ℕ) (unfinished : Option (KeptRequest F R)) (conf : Conf) (s : Slate) → IsExchange answer answers number unfinished s → IsExchange answer answers number unfinished (with_conf conf s)
  met_exchange number unfinished conf s h = record { client = h.client; freed = h.freed; phase = h.phase; requests = h.requests; queue = h.queue }

  pub in_exchanges : (number : ℕ) (old new : Option (KeptRequest F R)) (outs : List Output) (e : Event)
      → Exchanges answer answers number old new outs (exchange_rule answers e.kind) → Exchanges answer answers number old new outs (rule answers e)
  in_exchanges number old new outs e f s h =
      let conf = conf_rule e.kind s.conf in
      let P : Effect → Type 0 = λ t. (outs ≡ t.1) × IsExchange answer answers number new t.0 in
      subst P (sym (in_exchange answers e s.phase (with_conf conf s) h.phase)) (f (with_conf conf s) (met_exchange number old conf s h))
