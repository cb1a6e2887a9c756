-- What an exchange is after a turn.
use Rattle.dns_session.specs.Serving.{Serving}
use Rattle.std.proofs.Common.{◌≡◌, ℕ, List, [], Bool, Option, Some, None, refl, ap, ◌∙◌}
use Rattle.std.specs.Prelude.{slice_get}
use Rattle.dns_base.specs.Msg.{Msg}
use Rattle.dns_framing.specs.Answer.{Answer}
use Rattle.dns_events.specs.declared.event.Output.{Output}
use Rattle.dns_session.specs.Slate.{Slate, SlateRequest}
use Rattle.dns_session.specs.Turns.{polled, exchange_turn, sent_at_once}
use Rattle.dns_session.specs.IsPolled.{IsPolled}
use Rattle.dns_session.specs.Goings.{Exchanges, unless_done}
use Rattle.dns_session.specs.Stands.{Keeps}
use Rattle.dns_session.specs.declared.kept.KeptRequest.{KeptRequest}
use Rattle.dns_framing.specs.Polls.{PolledRequest}
use Rattle.dns_session.proofs.Keeping.{found, sole_set}

module _ {R F : Type 0} (answer : PolledRequest F R → ℕ → Answer) (answers : Serving) where
  -- a turn of a request of which nothing is kept
  nothing_exchanged : (k : ℕ) (x : Option SlateRequest) (s : Slate) → Keeps answer answers None x → exchange_turn answers k x s ≡ (s, [])
  nothing_exchanged k None s h = refl
  nothing_exchanged k (Some r) s h = rw h refl

  pub none_exchanged : (client : ℕ) → Exchanges answer answers client None None [] (λ s. exchange_turn answers 0 (slice_get s.requests 0) s)
  none_exchanged client s h = let n : exchange_turn answers 0 (slice_get s.requests 0) s ≡ (s, []) = nothing_exchanged 0 (slice_get s.requests 0) s (h.requests 0) in rw n (refl, h)

  pub exchange_turned : (client : ℕ) (q q' : KeptRequest F R) (x : Option Msg) (done : Bool) (outs : List Output)
      → IsPolled answer q x done q'
      → outs ≡ sent_at_once client x
      → Exchanges answer answers client (Some q) (unless_done done q') outs (λ s. exchange_turn answers 0 (slice_get s.requests 0) s)
  exchange_turned client q q' x done outs p said s h =
      let f = found answer answers q q' (slice_get s.requests 0) x done (h.requests 0) p in
      rw (f.is, f.open_yet, ← f.says) (
        said ∙ ap (λ n. sent_at_once n x) h.client,
        record {
          client = h.client;
          freed = h.freed;
          phase = h.phase;
          requests = sole_set answer answers (Some q) (unless_done done q') s.requests f.r (polled (answers.answer f.r.request f.r.polls) f.r) f.is h.requests f.keeps;
          queue = h.queue;
        },
      )
