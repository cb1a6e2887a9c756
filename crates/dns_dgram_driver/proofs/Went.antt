-- How what parts of the loop of datagrams did to their `DgramLoop` follows each other.
use Rattle.std.proofs.Common.{◌≡◌, ◌≢◌, ℕ, refl, ap, ◌∙◌}
use Rattle.std.specs.Prelude.{Some, Result}
use Rattle.dns_name.specs.declared.error.OutOfMemory.{OutOfMemory as No_memory}
use Rattle.dns_io.specs.Causes.{Observed}
use Rattle.dns_dgram_driver.specs.DatagramsServed.{World, ReceivesBy}
use Rattle.dns_dgram_driver.specs.Rounds.{TakenBy}
use Rattle.dns_dgram_driver.specs.LoopParts.{MayReceive, SameLoop, Went, OnlyPolls, RanOnce, WentTo, ObservedSo}
use Rattle.dns_dgram_driver.specs.declared.dgram_loop.DgramLoop.{DgramLoop}
use Rattle.dns_dgram_driver.specs.declared.running.Running.{Running}
use Rattle.dns_dgram_driver.specs.declared.serving.DgramEnd.{DgramEnd}
use Rattle.dns_dgram_driver.specs.declared.serving.DgramEnd.TheVariants.{Shutdown, Counted, Fault, OutOfMemory}
use Rattle.dns_dgram_driver.proofs.Counts.{taken_less}
use Rattle.dns_dgram_driver.proofs.Passes.{passes_same, passes_then}
use Rattle.dns_dgram_driver.proofs.ObservedLaws.{if_ok_by, on_err_by, tells_two}

-- no receive failed if it ended by anything but a fault
received_all : (end : DgramEnd) {r r' : ℕ} → end ≢ Fault → ReceivesBy end r r' → r' ≡ r
received_all Shutdown n h = h
received_all Counted n h = h
received_all Fault n h = absurd (n refl)
received_all OutOfMemory n h = h

module _ {T W D C J R F : Type 0} where
  pub same_loop : {o : DgramLoop T W D C J R F} → SameLoop o o
  same_loop = record { book = refl; service = refl; sock = refl; clock = refl; journal = refl; state = refl }

  pub same_then : {o o1 o2 : DgramLoop T W D C J R F} → SameLoop o o1 → SameLoop o1 o2 → SameLoop o o2
  same_then a b = record {
    book = b.book ∙ a.book;
    service = b.service ∙ a.service;
    sock = b.sock ∙ a.sock;
    clock = b.clock ∙ a.clock;
    journal = b.journal ∙ a.journal;
    state = b.state ∙ a.state;
  }

  module _ {failed_sends : D → ℕ} where
    pub went_same : {o : DgramLoop T W D C J R F} → Went failed_sends o o
    went_same {o} = record { same = same_loop; passes = passes_same o.state.now (failed_sends o.sock.now) }

    pub went_then : {o o1 o2 : DgramLoop T W D C J R F} → Went failed_sends o o1 → Went failed_sends o1 o2 → Went failed_sends o o2
    went_then a b = record { same = same_then a.same b.same; passes = passes_then _ _ _ _ _ _ a.passes b.passes }

    pub went_by : {failed_receives : D → ℕ} {end : DgramEnd} {count : ℕ} {o o1 : DgramLoop T W D C J R F} → WentTo failed_receives failed_sends end count o o1 → Went failed_sends o o1
    went_by a = record { same = a.same; passes = a.passes.passes }

    -- the seat is still of the loop's book
    pub same_seat : {o o1 : DgramLoop T W D C J R F} → Went failed_sends o o1 → o.state.now.seat.book ≡ o.book.now → o1.state.now.seat.book ≡ o1.book.now
    same_seat w h = rw w.same.book (w.passes.book ∙ h)

  module _ {failed_receives failed_sends : D → ℕ} where
    pub polls_same : {o : DgramLoop T W D C J R F} → OnlyPolls failed_receives failed_sends o o
    polls_same = record { went = went_same; receives = refl; next = refl }

    pub polls_then : {o o1 o2 : DgramLoop T W D C J R F} → OnlyPolls failed_receives failed_sends o o1 → OnlyPolls failed_receives failed_sends o1 o2 → OnlyPolls failed_receives failed_sends o o2
    polls_then a b = record { went = went_then a.went b.went; receives = b.receives ∙ a.receives; next = b.next ∙ a.next }

    -- and so is what comes after a part that only polls
    pub still_ready : {can_call : W → Type 0} {o o1 : DgramLoop T W D C J R F} → OnlyPolls failed_receives failed_sends o o1 → MayReceive can_call o → MayReceive can_call o1
    still_ready p m = record { seat = same_seat p.went m.seat; callable = rw p.went.same.service m.callable; room = rw p.next m.room }

    -- the socket waited before
    pub polls_waited : {o o1 o2 : DgramLoop T W D C J R F} → SameLoop o o1 → o1.state.now ≡ o.state.now → failed_sends o1.sock.now ≡ failed_sends o.sock.now → failed_receives o1.sock.now ≡ failed_receives o.sock.now
        → OnlyPolls failed_receives failed_sends o1 o2 → OnlyPolls failed_receives failed_sends o o2
    polls_waited same state sends receives p =
        record { went = record { same = same_then same p.went.same; passes = rw (state, sends) at p.went.passes }; receives = p.receives ∙ receives; next = p.next ∙ ap (λ (s : Running W R F). s.next) state }

    -- the rounds end with one of them
    pub rounds_to : {end : DgramEnd} {count : ℕ} {o o1 o2 : DgramLoop T W D C J R F} → Went failed_sends o o1 → failed_receives o1.sock.now ≡ failed_receives o.sock.now → RanOnce failed_receives failed_sends (Some end) o1 o2
        → TakenBy end count o2.state.now.next → WentTo failed_receives failed_sends end count o o2
    rounds_to w r l t = let both = went_then w l.went in record {
      same = both.same;
      passes = record { passes = both.passes; taken = t; receives = rw r at l.later; cause = rw r at l.cause; closed = λ e. l.closed (ap (λ (x : DgramEnd). Some x) e) };
    }

    -- a part that only polls comes after them; if memory runs out in it, that is the end
    pub polled_to : {end : DgramEnd} {count : ℕ} {o o1 o2 : DgramLoop T W D C J R F} → WentTo failed_receives failed_sends end count o o1 → OnlyPolls failed_receives failed_sends o1 o2 → WentTo failed_receives failed_sends end count o o2
    polled_to a p = record {
      same = same_then a.same p.went.same;
      passes = record {
        passes = passes_then _ _ _ _ _ _ a.passes.passes p.went.passes;
        taken = rw p.next a.passes.taken;
        receives = rw p.receives a.passes.receives;
        cause = rw p.receives a.passes.cause;
        closed = λ e. p.went.passes.over (a.passes.closed e);
      };
    }

    pub polls_break_to : (end : DgramEnd) {count : ℕ} {o o1 o2 : DgramLoop T W D C J R F} → end ≢ Fault → WentTo failed_receives failed_sends end count o o1 → OnlyPolls failed_receives failed_sends o1 o2 → WentTo failed_receives failed_sends OutOfMemory count o o2
    polls_break_to end n a p =
        let x = polled_to a p in record {
          same = x.same;
          passes = record {
            passes = x.passes.passes;
            taken = taken_less end x.passes.taken;
            receives = x.passes.receives;
            cause = received_all end n x.passes.cause;
            closed = λ e. absurd (cc e);
          };
        }

  module _ {X Y : Type 0} {observed_by : DgramLoop T W D C J R F → Type 0} {seen : DgramLoop T W D C J R F → World} {did did1 : X → World → Running W R F → World → Running W R F → Type 0} {broke broke1 : World → Running W R F → World → Type 0} where
    -- a part that ends as another one did, which came after something
    pub told_then : {o o1 o2 : DgramLoop T W D C J R F} {r : Result X No_memory} → Observed (observed_by o1) (observed_by o) Y → ObservedSo observed_by seen did1 broke1 r o1 o2
        → ((x : X) → Y → did1 x (seen o1) o1.state.now (seen o2) o2.state.now → did x (seen o) o.state.now (seen o2) o2.state.now)
        → (Y → broke1 (seen o1) o1.state.now (seen o2) → broke (seen o) o.state.now (seen o2)) → ObservedSo observed_by seen did broke r o o2
    told_then {r = r} x y f h = record { observed = if_ok_by r _ _ y.observed (λ v d. tells_two x d (f v)); no_memory = on_err_by r y.no_memory (λ d. tells_two x d h) }
