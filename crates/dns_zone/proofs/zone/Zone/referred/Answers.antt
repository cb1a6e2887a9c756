use Rattle.std.proofs.lemmas.Result.{err_from_is_err_and}
use Rattle.dns_zone.specs.Places.{at_places}
use Rattle.dns_zone.proofs.BuildLaws.{referral_short}
use Rattle.dns_zone.proofs.zone.Zone.referred.Goals as goal

pub returns-in_err-reply : goal.returns-in_err-reply
returns-in_err-reply c =
    let p = err_from_is_err_and c.from_residual-in_err-reply.result c.from_residual-in_err-reply.ensures.1 in
    rw (p.1, p.2) (referral_short c.args.query.now c.args.self.now (at_places c.args.self.now.records c.args.servers.now) c.in_err-reply.field-0.0 c.in_err-reply.ensures)
