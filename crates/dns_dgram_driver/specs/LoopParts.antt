-- What a part of the loop of datagrams does to the `DgramLoop` that it works in, whose objects are read so.
use Rattle.std.specs.Prelude.{◌≡◌, ◌≤◌, ◌<◌, ◌-◌, ◌^◌, ℕ, List, true, Option, Some, Result, IfOk, OnErr}
use Rattle.dns_name.specs.declared.error.OutOfMemory.{OutOfMemory as No_memory}
use Rattle.dns_io.specs.Causes.{Observed}
use Rattle.dns_io.specs.SockTraffic.{SockTraffic}
use Rattle.dns_events.specs.declared.event.Event.{Event}
use Rattle.dns_recorder.specs.Clocks.{ClockReading}
use Rattle.dns_dgram_driver.specs.DatagramsServed.{World, world}
use Rattle.dns_dgram_driver.specs.Rounds.{PassesOn, PassesTo, RoundedSo, RoundedUpTo}
use Rattle.dns_dgram_driver.specs.declared.dgram_loop.DgramLoop.{DgramLoop}
use Rattle.dns_dgram_driver.specs.declared.serving.DgramEnd.{DgramEnd}
use Rattle.dns_dgram_driver.specs.declared.serving.DgramEnd.TheVariants.{Shutdown}
use Rattle.dns_dgram_driver.specs.declared.running.Running.{Running}

module _ {T W D C J R F : Type 0} where
  -- what is seen of a loop, and that its objects tell
  abbrev pub loop_seen : (D → SockTraffic) → (D → ℕ) → (C → List ClockReading) → (J → List Event) → DgramLoop T W D C J R F → World
  loop_seen sock_traffic failed_sends readings noted o
      = world (noted o.journal.now) (sock_traffic o.sock.now) (failed_sends o.sock.now) (readings o.clock.now) o.state.now.seat.known

  abbrev pub loop_observed : (D → Type 0) → (C → Type 0) → (J → Type 0) → DgramLoop T W D C J R F → Type 0
  loop_observed tells ticks notes o = tells o.sock.now × ticks o.clock.now × notes o.journal.now

  -- book and service are the same, and so are the places of socket, clock, recorder and of what is kept
  pub record SameLoop (o o' : DgramLoop T W D C J R F) : Type 0 where
    pub book : o'.book ≡ o.book
    pub service : o'.service ≡ o.service
    pub sock : o'.sock.ghost_name ≡ o.sock.ghost_name
    pub clock : o'.clock.ghost_name ≡ o.clock.ghost_name
    pub journal : o'.journal.ghost_name ≡ o.journal.ghost_name
    pub state : o'.state.ghost_name ≡ o.state.ghost_name

  -- the seat is of the loop's book, its service may be called, and a number is left for an exchange
  pub record MayReceive (can_call : W → Type 0) (o : DgramLoop T W D C J R F) : Type 0 where
    pub seat : o.state.now.seat.book ≡ o.book.now
    pub callable : can_call o.service.now
    pub room : o.state.now.next < 2 ^ 64 - 1

  -- Whatever they tell: what a part did that may receive, a part that only polls, and a round
  pub record Went (failed_sends : D → ℕ) (o o' : DgramLoop T W D C J R F) : Type 0 where
    pub same : SameLoop o o'
    pub passes : PassesOn o.state.now o'.state.now (failed_sends o.sock.now) (failed_sends o'.sock.now)

  pub record OnlyPolls (failed_receives failed_sends : D → ℕ) (o o' : DgramLoop T W D C J R F) : Type 0 where
    pub went : Went failed_sends o o'
    pub receives : failed_receives o'.sock.now ≡ failed_receives o.sock.now
    pub next : o'.state.now.next ≡ o.state.now.next

  pub record RanOnce (failed_receives failed_sends : D → ℕ) (r : Option DgramEnd) (o o' : DgramLoop T W D C J R F) : Type 0 where
    pub went : Went failed_sends o o'
    pub next : RoundedUpTo r o.state.now.next o'.state.now.next
    pub later : failed_receives o.sock.now ≤ failed_receives o'.sock.now
    pub cause : RoundedSo r (failed_receives o.sock.now) (failed_receives o'.sock.now)
    pub closed : r ≡ Some Shutdown → o'.state.now.heard.closed ≡ true

  -- whatever the objects tell: what the rounds did up to the loop's end, and what comes after them
  pub record WentTo (failed_receives failed_sends : D → ℕ) (end : DgramEnd) (count : ℕ) (o o' : DgramLoop T W D C J R F) : Type 0 where
    pub same : SameLoop o o'
    pub passes : PassesTo end count o.state.now o'.state.now (failed_sends o.sock.now) (failed_sends o'.sock.now)
        (failed_receives o.sock.now) (failed_receives o'.sock.now)

  -- if they tell: this was done, by the result, or memory ran out
  pub record ObservedSo {X : Type 0} (observed_by : DgramLoop T W D C J R F → Type 0) (seen : DgramLoop T W D C J R F → World)
      (did : X → World → Running W R F → World → Running W R F → Type 0) (broke : World → Running W R F → World → Type 0)
      (r : Result X No_memory) (o o' : DgramLoop T W D C J R F) : Type 0 where
    pub observed : IfOk r (λ x. Observed (observed_by o') (observed_by o) (did x (seen o) o.state.now (seen o') o'.state.now))
    pub no_memory : OnErr r (Observed (observed_by o') (observed_by o) (broke (seen o) o.state.now (seen o')))
