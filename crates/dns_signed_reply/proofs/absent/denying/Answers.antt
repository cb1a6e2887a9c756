use Rattle.std.proofs.Common.{◌≡◌, [], ◌∷◌, ◌++◌, List, sym, subst, ◌∙◌}
use Rattle.std.specs.Prelude.{MatchOption}
use Rattle.std.specs.List.{flat_map}
use Rattle.std.specs.Option.{option_copied}
use Rattle.dns_zone_tree.proofs.KeptLaws.{if_ok}
use Rattle.dns_zone_tree.specs.Wildcards.{wildcard}
use Rattle.dns_denial.specs.Chains.{IsWhole}
use Rattle.dns_denial.specs.Denials.{AreLast, HasNoZone}
use Rattle.dns_denial.specs.Nsecs.{AreSorted, NsecState}
use Rattle.dns_denial.proofs.DenialLaws.{last_wildcard}
use Rattle.dns_signed_reply.specs.DirectReplies.{AreOwners}
use Rattle.dns_signed_reply.specs.SignedReplies.{nearest}
use Rattle.dns_signed_reply.proofs.NearLaws.{near_some}
use Rattle.dns_signed_reply.proofs.absent.denying.Goals as goal

pub owners_of-requires : goal.owners_of-requires
owners_of-requires c =
    let s = c.args.zone.now in
    let name = c.args.name.now in
    let l = subst (λ (ns : List NsecState). MatchOption c.in_ok-found.found (HasNoZone ns name) (λ b. AreLast ns name b.name.now b.wildcard.now)) c.chain-chain.ensures.value c.in_ok-found.ensures.last in
    let k = rw c.in-Some.is at l in
    record { first = k.0.one; second = k.1.one }

pub returns : goal.returns
returns c =
    let s = c.args.zone.now in
    let z = s.zone in
    let name = c.args.name.now in
    let v = c.chain-chain.ensures.value in
    let w = subst (λ (ns : List NsecState). IsWhole z ns) v c.chain-chain.ensures.whole in
    let sorted = subst AreSorted (c.nsecs-sorted.ensures.value ∙ v) c.nsecs-sorted.ensures.sorted in
    let n = c.in-Some.denial.name.now in
    let m = c.in-Some.denial.wildcard.now in
    let l = subst (λ (ns : List NsecState). MatchOption c.in_ok-found.found (HasNoZone ns name) (λ b. AreLast ns name b.name.now b.wildcard.now)) v c.in_ok-found.ensures.last in
    let k = rw c.in-Some.is at l in
    let below = last_wildcard z s.nsecs w name n m k.0 c.requires.answered.cut c.requires.missing k.1 in
    let both : flat_map (nearest s.nsecs) (name ∷ wildcard z name ∷ []) ≡ n ∷ m ∷ [] = λ i. near_some s.nsecs sorted name n k.0 i ++ (near_some s.nsecs sorted (wildcard z name) m below i ++ []) in
    if_ok (λ o. AreOwners z (n ∷ m ∷ []) (option_copied o.name) (option_copied o.wildcard)) (λ o. AreOwners z (flat_map (nearest s.nsecs) (name ∷ wildcard z name ∷ [])) (option_copied o.name) (option_copied o.wildcard)) c.owners_of.result c.owners_of.ensures
    (λ o h. subst (λ (ns : List NsecState). AreOwners z ns (option_copied o.name) (option_copied o.wildcard)) (sym both) h)

pub unreachable-requires : goal.unreachable-requires
unreachable-requires c =
    let s = c.args.zone.now in
    let name = c.args.name.now in
    let v = c.chain-chain.ensures.value in
    let w = subst (λ (ns : List NsecState). IsWhole s.zone ns) v c.chain-chain.ensures.whole in
    let l = subst (λ (ns : List NsecState). MatchOption c.in_ok-found.found (HasNoZone ns name) (λ b. AreLast ns name b.name.now b.wildcard.now)) v c.in_ok-found.ensures.last in
    let k = rw c.in-None.is at l in
    k s.zone w c.requires.inside c.requires.answered c.requires.missing
