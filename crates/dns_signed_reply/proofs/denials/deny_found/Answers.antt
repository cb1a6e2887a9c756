use Rattle.std.proofs.Common.{subst}
use Rattle.dns_zone_tree.specs.Walks.{EndsAt}
use Rattle.dns_signed_reply.specs.SignedReplies.{denied}
use Rattle.dns_signed_reply.proofs.NearLaws.{dname_denied, for_none}
use Rattle.dns_signed_reply.proofs.denials.deny_found.Goals as goal

pub deny_type-requires : goal.deny_type-requires
deny_type-requires c = subst (EndsAt c.args.zone.now.zone c.args.rtype c.args.name.now) c.in-Node.is c.requires.ends

pub deny_missing-requires : goal.deny_missing-requires
deny_missing-requires c = record {
  inside = c.requires.inside;
  reached = subst (EndsAt c.args.zone.now.zone c.args.rtype c.args.name.now) c.in-Missing.is c.requires.ends;
}

pub returns-in-Cut : goal.returns-in-Cut
returns-in-Cut c = c.deny_ds.ensures c.args.rtype c.args.name.now (subst (EndsAt c.args.zone.now.zone c.args.rtype c.args.name.now) c.in-Cut.is c.requires.ends)

pub returns-in-Dname : goal.returns-in-Dname
returns-in-Dname c =
    let s = c.args.zone.now in
    let e = subst (EndsAt s.zone c.args.rtype c.args.name.now) c.in-Dname.is c.requires.ends in
    for_none s.zone s.nsecs c.args.into.now.items (denied s.zone c.args.rtype c.args.name.now) (dname_denied s.zone c.args.rtype c.args.name.now _ e.0)
