use Rattle.std.proofs.Common.{refl, subst}
use Rattle.std.specs.Option.{option_copied}
use Rattle.dns_zone_tree.proofs.KeptLaws.{if_ok}
use Rattle.dns_zone_tree.specs.Walks.{EndsAt}
use Rattle.dns_denial.specs.Accepted.{servers_owner}
use Rattle.dns_signed_zone.specs.SignedZones.{IsOne, IsTwo, Proves, SignedState, proofs_in, servers_at}
use Rattle.dns_signed_zone.proofs.ProofLaws.{cut_proves, dname_proves, missing_proves, never_none, node_proves}
use Rattle.dns_signed_zone.proofs.signed_zone.proofs_of.Goals as goal

pub returns-in-Node : goal.returns-in-Node
returns-in-Node c =
    let s : SignedState = record { zone = c.args.zone.now; nsecs = c.args.chain.now } in
    let t = c.args.rtype in
    let name = c.args.name.now in
    let r = subst (EndsAt s.zone t name) c.in-Node.is c.in_ok-found.ensures in
    if_ok (IsOne s.nsecs name) (λ p. Proves s t name (proofs_in p)) c.one.result c.one.ensures
    (λ p h. node_proves s c.requires.whole t name c.requires.inside r.region r.exists_ (option_copied p.first) (option_copied p.second) h)

pub returns-in-Missing : goal.returns-in-Missing
returns-in-Missing c =
    let s : SignedState = record { zone = c.args.zone.now; nsecs = c.args.chain.now } in
    let t = c.args.rtype in
    let name = c.args.name.now in
    let r = subst (EndsAt s.zone t name) c.in-Missing.is c.in_ok-found.ensures in
    if_ok (IsTwo s.nsecs name) (λ p. Proves s t name (proofs_in p)) c.two.result c.two.ensures
    (λ p h. missing_proves s c.requires.whole t name c.requires.inside r.region r.missing (option_copied p.first) (option_copied p.second) h)

pub at_cut-requires : goal.at_cut-requires
at_cut-requires c =
    let s : SignedState = record { zone = c.args.zone.now; nsecs = c.args.chain.now } in
    let t = c.args.rtype in
    let name = c.args.name.now in
    never_none s c.requires.whole t name c.requires.inside (servers_at s.zone c.in-Cut.kinds.now) (subst (EndsAt s.zone t name) c.in-Cut.is c.in_ok-found.ensures)

pub returns-in-Cut : goal.returns-in-Cut
returns-in-Cut c =
    let s : SignedState = record { zone = c.args.zone.now; nsecs = c.args.chain.now } in
    let t = c.args.rtype in
    let name = c.args.name.now in
    let rs = servers_at s.zone c.in-Cut.kinds.now in
    let e = subst (EndsAt s.zone t name) c.in-Cut.is c.in_ok-found.ensures in
    if_ok (IsOne s.nsecs (servers_owner rs)) (λ p. Proves s t name (proofs_in p)) c.at_cut.result c.at_cut.ensures
    (λ p h. cut_proves s c.requires.whole t name c.requires.inside rs e (servers_owner rs) refl (option_copied p.first) (option_copied p.second) h)

pub returns-in-Dname : goal.returns-in-Dname
returns-in-Dname c =
    let s : SignedState = record { zone = c.args.zone.now; nsecs = c.args.chain.now } in
    let t = c.args.rtype in
    let name = c.args.name.now in
    let e = subst (EndsAt s.zone t name) c.in-Dname.is c.in_ok-found.ensures in
    dname_proves s c.requires.whole t name c.requires.inside _ e.0
