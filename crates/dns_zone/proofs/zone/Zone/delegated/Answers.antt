use Rattle.std.proofs.Common.{refl, ap, ◌∙◌}
use Rattle.std.proofs.lemmas.Result.{err_from_is_err_and}
use Rattle.dns_zone.specs.Owned.{ZoneState}
use Rattle.dns_zone.specs.Places.{at_places}
use Rattle.dns_zone.specs.ZoneReply.{delegation}
use Rattle.dns_zone.proofs.BuildLaws.{begun_short, delegation_short}
use Rattle.dns_zone.proofs.zone.Zone.delegated.Goals as goal

pub returns-in_err-begin_reply : goal.returns-in_err-begin_reply
returns-in_err-begin_reply c =
    let p = err_from_is_err_and c.from_residual.result c.from_residual.ensures.1 in
    rw (p.1, p.2) (begun_short c.args.query.now (delegation (at_places c.args.self.now.records c.args.servers.now)) 0 c.in_err-begin_reply.field-0.0 refl c.in_err-begin_reply.ensures)

pub returns-in_err-add_places : goal.returns-in_err-add_places
returns-in_err-add_places c =
    let p = err_from_is_err_and c.from_residual-in_err-add_places.result c.from_residual-in_err-add_places.ensures.1 in
    rw (p.1, p.2) (delegation_short c.args.query.now c.args.self.now.records c.as_slice.result.now c.authority-referred.result c.add_places.new.builder c.args.servers.now c.in_err-add_places.field-0.0 (c.authority-referred.ensures ∙ c.in_ok-begin_reply.ensures.0) (c.as_slice.ensures.value ∙ ap (λ (z : ZoneState). z.records) c.self.view_is) c.in_err-add_places.ensures)
