use Rattle.dns_name_server.proofs.ReplyLaws.{direct_replies_are_the_zones, direct_replies_are_wild}
use Rattle.dns_name_server.proofs.laws.direct_replies_are_the_zones.Goals as goal

pub returns-clause-wild : goal.returns-clause-wild
returns-clause-wild c = direct_replies_are_wild

pub returns-clause-zone : goal.returns-clause-zone
returns-clause-zone c = direct_replies_are_the_zones
