use Rattle.std.proofs.lemmas.List.{take_all}
use Rattle.std.proofs.lemmas.List.Elements.{All-more}
use Rattle.dns_trace.specs.InRange.{IsAddress}
use Rattle.dns_server.proofs.in_range.addresses.Goals as goal

pub loop-denied-preserved : goal.loop-denied-preserved
loop-denied-preserved c = All-more IsAddress c.args.addresses.now c.loop-denied.denied-index _ c.loop-denied-test.true c.loop-denied.invariant c.address.ensures

pub returns : goal.returns
returns c = rw (take_all c.loop-denied.denied-index c.args.addresses.now c.loop-denied-test.false) at c.loop-denied.invariant
