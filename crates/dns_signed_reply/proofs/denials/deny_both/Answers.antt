use Rattle.std.proofs.Common.{[], ◌∷◌, List, ap, subst, ◌∙◌}
use Rattle.std.specs.Prelude.{MatchOption}
use Rattle.dns_zone.specs.Owned.{ZoneState}
use Rattle.dns_zone_tree.proofs.KeptLaws.{on_ok}
use Rattle.dns_zone_tree.specs.Wildcards.{wildcard}
use Rattle.dns_denial.specs.Chains.{IsWhole}
use Rattle.dns_denial.specs.Denials.{AreLast, HasNoZone}
use Rattle.dns_denial.specs.Nsecs.{AreSorted, NsecState}
use Rattle.dns_denial.proofs.DenialLaws.{last_wildcard}
use Rattle.dns_signed_reply.specs.SignedReplies.{nsec_records_of}
use Rattle.dns_signed_reply.proofs.NearLaws.{for_both}
use Rattle.dns_signed_reply.proofs.denials.deny_both.Goals as goal

pub returns : goal.returns
returns c =
    let s = c.args.zone.now in
    let z = s.zone in
    let name = c.args.name.now in
    let v = c.chain-chain.ensures.value in
    let w = subst (λ (ns : List NsecState). IsWhole z ns) v c.chain-chain.ensures.whole in
    let sorted = subst AreSorted (c.nsecs-sorted.ensures.value ∙ v) c.nsecs-sorted.ensures.sorted in
    let n = c.in-Some.denial.name.now in
    let m = c.in-Some.denial.wildcard.now in
    let l = subst (λ (ns : List NsecState). MatchOption c.in_ok-found.found (HasNoZone ns name) (λ b. AreLast ns name b.name.now b.wildcard.now)) v c.in_ok-found.ensures.last in
    let k = rw c.in-Some.is at l in
    let below = last_wildcard z s.nsecs w name n m k.0 c.requires.answered.cut c.requires.missing k.1 in
    let old = c.args.into.now.items in
    let mid = c.add_nsec.new.into.items in
    let new = c.add_nsec-in-Some.new.into.items in
    on_ok c.add_nsec-in-Some.result c.add_nsec-in-Some.ensures
    (λ e. for_both z s.nsecs old sorted name (wildcard z name) n m mid new k.0 below (c.in_ok-add_nsec-in-Some.ensures ∙ ap (λ (x : ZoneState). nsec_records_of x old (n ∷ [])) c.zone.ensures) (e ∙ ap (λ (x : ZoneState). nsec_records_of x mid (m ∷ [])) c.zone-in-Some.ensures))

pub unreachable-requires : goal.unreachable-requires
unreachable-requires c =
    let s = c.args.zone.now in
    let name = c.args.name.now in
    let v = c.chain-chain.ensures.value in
    let w = subst (λ (ns : List NsecState). IsWhole s.zone ns) v c.chain-chain.ensures.whole in
    let l = subst (λ (ns : List NsecState). MatchOption c.in_ok-found.found (HasNoZone ns name) (λ b. AreLast ns name b.name.now b.wildcard.now)) v c.in_ok-found.ensures.last in
    let k = rw c.in-None.is at l in
    k s.zone w c.requires.inside c.requires.answered c.requires.missing
