use Rattle.dns_session_map.proofs.Keyed.{used_put}
use Rattle.dns_session_map.proofs.clients.use_number.Goals as goal

pub returns : goal.returns
returns c = used_put c.args.used.now c.insert.new.self c.args.client c.in_ok-insert.ensures.updates.0
