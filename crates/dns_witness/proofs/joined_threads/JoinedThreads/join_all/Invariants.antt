use Rattle.dns_witness.specs.Works.{Began}
use Rattle.dns_witness.proofs.joined_threads.JoinedThreads.join_all.Given as goal

abbrev pub invariant-loop : goal.invariant-loop
invariant-loop g l = Began 0 l.initial.self.seen.works l.self.seen.works
