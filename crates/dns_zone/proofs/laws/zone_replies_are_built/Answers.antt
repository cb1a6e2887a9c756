use Rattle.dns_zone.specs.ZoneReply.{zone_reply}
use Rattle.dns_zone.specs.ZoneTurns.{zone_message}
use Rattle.dns_zone.proofs.TypedLaws.{message_typed}
use Rattle.dns_zone.proofs.laws.zone_replies_are_built.Goals as goal

pub returns : goal.returns
returns c = λ z o q t h. c.typed_replies_are_built.ensures (zone_message o (zone_reply z q)) h (message_typed z q t o)
