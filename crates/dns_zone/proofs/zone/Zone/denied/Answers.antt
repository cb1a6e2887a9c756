use Rattle.std.specs.Prelude.{if◌then◌else◌}
use Rattle.std.proofs.lemmas.Result.{err_from_is_err_and}
use Rattle.dns_zone.specs.ZoneReply.{denied}
use Rattle.dns_zone.proofs.BuildLaws.{begun_short, negative_lawful}
use Rattle.dns_zone.proofs.zone.Zone.denied.Goals as goal

pub returns-in_err-begin_reply : goal.returns-in_err-begin_reply
returns-in_err-begin_reply c =
    let p = err_from_is_err_and c.from_residual.result c.from_residual.ensures.1 in
    rw (p.1, p.2) (begun_short c.args.query.now (denied c.args.self.now (if c.args.exists then 0 else 3)) c.negative_code.result c.in_err-begin_reply.field-0.0 c.negative_code.ensures c.in_err-begin_reply.ensures)

pub push-requires : goal.push-requires
push-requires c = negative_lawful c.self.inside.records.items c.self.inside.negative c.self.invariant.lawful c.self.invariant.soa
