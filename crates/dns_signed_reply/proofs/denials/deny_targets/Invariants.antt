use Rattle.std.proofs.Common.{◌≡◌, take}
use Rattle.std.specs.List.{flat_map}
use Rattle.dns_signed_reply.specs.PlainReplies.{nsecs_inside}
use Rattle.dns_signed_reply.specs.SignedReplies.{led_to, nsec_records_of}
use Rattle.dns_signed_reply.proofs.denials.deny_targets.Given as goal

abbrev pub invariant-each : goal.invariant-each
invariant-each l = l.into.items ≡ nsec_records_of l.zone.zone l.fn.into.items (nsecs_inside l.zone l.rtype (flat_map led_to (take l.alias-index l.answers)))
