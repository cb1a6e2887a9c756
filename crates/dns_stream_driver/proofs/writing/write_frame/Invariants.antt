use Rattle.std.proofs.Common.{◌≡◌, ◌≤◌, length}
use Rattle.dns_io.specs.Causes.{Observed}
use Rattle.dns_recorder.specs.Clocks.{Waited}
use Rattle.dns_stream_driver.specs.Links.{WroteFront}
use Rattle.dns_stream_driver.proofs.writing.write_frame.Given as goal

abbrev pub invariant-loop : goal.invariant-loop
invariant-loop g l = record {
  moves : Observed (g.L.Link.tells l.link) (g.L.Link.tells l.fn.link) (WroteFront l.done l.frame (g.L.Link.traffic l.fn.link) (g.L.Link.traffic l.link));
  clock : Observed (g.L.Link.tells l.link × g.C.Clock.tells l.clock) (g.L.Link.tells l.fn.link × g.C.Clock.tells l.fn.clock) (Waited (g.L.Link.traffic l.fn.link).full_writes (g.L.Link.traffic l.link).full_writes (g.C.Clock.readings l.fn.clock) (g.C.Clock.readings l.clock));
  bound : l.done ≤ length l.frame;
  faults : g.L.Link.faults l.link ≡ g.L.Link.faults l.fn.link;
  again : Observed (g.L.Link.tells l.link) (g.L.Link.tells l.fn.link) ((g.L.Link.traffic l.fn.link).full_writes ≤ (g.L.Link.traffic l.link).full_writes);
}
