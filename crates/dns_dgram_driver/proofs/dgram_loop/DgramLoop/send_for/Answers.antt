use Rattle.dns_dgram_driver.proofs.ObservedLaws.{if_ok_one}
use Rattle.dns_dgram_driver.proofs.dgram_loop.DgramLoop.send_for.Goals as goal

pub returns-clause-observed : goal.returns-clause-observed
returns-clause-observed g c = record {
  observed = if_ok_one c.deliver-delivered.result
      (rw c.write_timeout-limit.ensures.value at c.deliver-delivered.ensures.observed) (λ d. d);
  no_memory
      = c.deliver-delivered.ensures.no_memory;
}
