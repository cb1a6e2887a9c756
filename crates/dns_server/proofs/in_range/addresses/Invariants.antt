use Rattle.std.proofs.Common.{take}
use Rattle.std.specs.List.{All}
use Rattle.dns_trace.specs.InRange.{IsAddress}
use Rattle.dns_server.proofs.in_range.addresses.Given as goal

-- the addresses so far are in range
abbrev pub invariant-loop-denied : goal.invariant-loop-denied
invariant-loop-denied l = All IsAddress (take l.denied-index l.addresses)
