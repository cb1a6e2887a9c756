-- What one poll of an exchange's request does to what is kept of it.
use Rattle.std.specs.Prelude.{◌≡◌, ℕ, suc, Bool, Option}
use Rattle.std.specs.Arc.{arc_value}
use Rattle.dns_base.specs.Msg.{Msg}
use Rattle.dns_framing.specs.Answer.{Answer}
use Rattle.dns_framing.specs.Polls.{PolledRequest}
use Rattle.dns_session.specs.Turns.{ends, reply_to}
use Rattle.dns_session.specs.declared.kept.KeptRequest.{KeptRequest}

-- the reply that the first answer is, and whether the request is done; after it the same request, past that answer
pub record IsPolled {F R : Type 0} (answer : PolledRequest F R → ℕ → Answer) (q : KeptRequest F R) (reply : Option Msg)
    (done : Bool) (q' : KeptRequest F R) : Type 0 where
  pub says : reply ≡ reply_to q.limit (arc_value q.message) (answer q.polled 0)
  pub ended : done ≡ ends (answer q.polled 0)
  pub polled : (k : ℕ) → answer q'.polled k ≡ answer q.polled (suc k)
  pub message : q'.message ≡ q.message
  pub limit : q'.limit ≡ q.limit
