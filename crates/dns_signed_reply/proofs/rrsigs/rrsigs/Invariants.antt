use Rattle.std.proofs.Common.{◌≡◌, [], ◌++◌}
use Rattle.dns_signed_reply.specs.SignedReplies.{rrsigs}
use Rattle.dns_signed_reply.proofs.RrsigLaws.{rest}
use Rattle.dns_signed_reply.proofs.rrsigs.rrsigs.Given as goal

abbrev pub invariant-each : goal.invariant-each
invariant-each l = l.found.items ++ rest l.zone l.records l.place ≡ rrsigs l.zone l.records [] l.records
