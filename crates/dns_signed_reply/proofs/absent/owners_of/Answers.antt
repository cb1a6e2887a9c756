use Rattle.std.proofs.Common.{List, ap, sym, subst, ◌∙◌}
use Rattle.std.specs.Option.{option_copied}
use Rattle.dns_route.specs.Routes.{ends_name}
use Rattle.dns_zone.specs.Owned.{ZoneState}
use Rattle.dns_denial.specs.Chains.{IsWhole}
use Rattle.dns_denial.specs.Nsecs.{AreSorted, NsecState}
use Rattle.dns_signed_reply.specs.DirectReplies.{IsReached}
use Rattle.dns_signed_reply.proofs.AbsentLaws.{one_owner, owner_inside, two_owners}
use Rattle.dns_signed_reply.proofs.absent.owners_of.Goals as goal

pub owner_of-requires : goal.owner_of-requires
owner_of-requires c =
    let s = c.args.zone.now in
    let n = c.args.first.now in
    let w = subst (λ (ns : List NsecState). IsWhole s.zone ns) c.chain-chain.ensures.value c.chain-chain.ensures.whole in
    ap (λ (z : ZoneState). ends_name n.owner z.apex) c.zone.ensures ∙ owner_inside s.zone s.nsecs w n c.requires.first

pub owner_of-requires-2 : goal.owner_of-requires-2
owner_of-requires-2 c =
    let s = c.args.zone.now in
    let m = c.args.second.now in
    let w = subst (λ (ns : List NsecState). IsWhole s.zone ns) c.chain-chain.ensures.value c.chain-chain.ensures.whole in
    ap (λ (z : ZoneState). ends_name m.owner z.apex) c.zone-2.ensures ∙ owner_inside s.zone s.nsecs w m c.requires.second

pub returns-then-are_same : goal.returns-then-are_same
returns-then-are_same c =
    let s = c.args.zone.now in
    let n = c.args.first.now in
    let m = c.args.second.now in
    let v = c.chain-chain.ensures.value in
    let w = subst (λ (ns : List NsecState). IsWhole s.zone ns) v c.chain-chain.ensures.whole in
    let sorted = subst AreSorted (c.nsecs-sorted.ensures.value ∙ v) c.nsecs-sorted.ensures.sorted in
    let x = option_copied c.in_ok-name.name in
    let h = subst (λ (z : ZoneState). IsReached z n.owner x) c.zone.ensures c.in_ok-name.ensures in
    one_owner s.zone s.nsecs w sorted n m x h c.requires.first c.requires.second (sym c.are_same.ensures ∙ c.if-are_same.true)

pub returns : goal.returns
returns c =
    let s = c.args.zone.now in
    let n = c.args.first.now in
    let m = c.args.second.now in
    let v = c.chain-chain.ensures.value in
    let w = subst (λ (ns : List NsecState). IsWhole s.zone ns) v c.chain-chain.ensures.whole in
    let sorted = subst AreSorted (c.nsecs-sorted.ensures.value ∙ v) c.nsecs-sorted.ensures.sorted in
    let x = option_copied c.in_ok-name.name in
    let y = option_copied c.in_ok-wildcard.wildcard in
    let h = subst (λ (z : ZoneState). IsReached z n.owner x) c.zone.ensures c.in_ok-name.ensures in
    let k = subst (λ (z : ZoneState). IsReached z m.owner y) c.zone-2.ensures c.in_ok-wildcard.ensures in
    two_owners s.zone s.nsecs w sorted n m x h y k (sym c.are_same.ensures ∙ c.if-are_same.false)
