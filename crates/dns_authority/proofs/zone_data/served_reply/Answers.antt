use Rattle.std.proofs.Common.{sym, subst}
use Rattle.dns_base.specs.Builds.{Builds, unlimited}
use Rattle.dns_zone.specs.ZoneTurns.{zone_message}
use Rattle.dns_authority.specs.ServedZones.{served_reply, signing_of, tree_of}
use Rattle.dns_authority.specs.declared.zone_data.ZoneData.{ZoneData}
use Rattle.dns_authority.proofs.zone_data.served_reply.Goals as goal

pub returns-in-Hashed : goal.returns-in-Hashed
returns-in-Hashed c =
    let o = c.args.query.now in
    subst (λ (d : ZoneData). Builds (unlimited (zone_message o (served_reply (tree_of d) (signing_of d) c.args.room o c.args.question.now))) c.hashed_reply.result) (sym c.in-Hashed.is) c.hashed_reply.ensures
