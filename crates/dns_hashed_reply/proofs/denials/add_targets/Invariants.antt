use Rattle.std.proofs.Common.{take}
use Rattle.std.specs.List.{flat_map}
use Rattle.dns_signed_reply.specs.SignedReplies.{led_to}
use Rattle.dns_hashed_reply.specs.Choices.{AddsFor, inside}
use Rattle.dns_hashed_reply.proofs.denials.add_targets.Given as goal

abbrev pub invariant-each : goal.invariant-each
invariant-each l = AddsFor l.zone l.rtype (inside l.zone (flat_map led_to (take l.alias-index l.answers))) l.fn.chosen l.chosen
