use Rattle.std.proofs.Common.{Some}
use Rattle.dns_routes.proofs.KeyLaws.{put_under}
use Rattle.dns_routes.proofs.places.put.Goals as goal

pub returns-clause-ok : goal.returns-clause-ok
returns-clause-ok c = put_under c.args.key.items c.args.places.now c.insert.new.self (Some c.args.place) c.in_ok-insert.ensures.updates
