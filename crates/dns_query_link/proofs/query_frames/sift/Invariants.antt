use Rattle.std.proofs.Common.{length}
use Rattle.dns_framing.specs.Frames.{frames}
use Rattle.dns_query_link.proofs.Sifted.{IsSifted}
use Rattle.dns_query_link.proofs.query_frames.sift.Given as goal

abbrev pub invariant-each : goal.invariant-each
invariant-each l = IsSifted l.initial.framer l.initial.waiting.items l.framer l.waiting.items l.dropped

abbrev pub decreases-each : goal.decreases-each
decreases-each l = length (frames l.framer)
