use Rattle.std.proofs.Common.{refl}
use Rattle.std.proofs.lemmas.Result.{err_from_is_err_and}
use Rattle.dns_zone.specs.Places.{at_places}
use Rattle.dns_zone.specs.ZoneReply.{authoritative}
use Rattle.dns_zone.proofs.BuildLaws.{begun_short}
use Rattle.dns_zone.proofs.zone.Zone.found.Goals as goal

pub returns-in_err-reply : goal.returns-in_err-reply
returns-in_err-reply c =
    let p = err_from_is_err_and c.from_residual.result c.from_residual.ensures.1 in
    rw (p.1, p.2) (begun_short c.args.query.now (authoritative (at_places c.args.self.now.records c.args.found.now)) 0 c.in_err-reply.field-0.0 refl c.in_err-reply.ensures)
