use Rattle.dns_zone_tree.specs.Kinds.{kind_places}
use Rattle.dns_name_server.proofs.compose.referred.Goals as goal

pub returns-in-Some : goal.returns-in-Some
returns-in-Some c = c.referred_by.ensures c.args.zone.now (kind_places 2 c.args.cut.now) c.in-Some.ensures

pub returns-in_ok-made-in-None : goal.returns-in_ok-made-in-None
returns-in_ok-made-in-None c = c.referred_by-in-None.ensures c.args.zone.now (kind_places 2 c.args.cut.now) c.in_ok-made-in-None.ensures.referral
