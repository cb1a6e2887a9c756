use Rattle.std.proofs.Common.{[], ◌∷◌, List, ap, sym, subst, ◌∙◌}
use Rattle.dns_zone.specs.Owned.{ZoneState}
use Rattle.dns_zone_tree.proofs.KeptLaws.{on_ok}
use Rattle.dns_denial.specs.Denials.{IsLastOf}
use Rattle.dns_denial.specs.Nsecs.{AreSorted, NsecState}
use Rattle.dns_signed_reply.specs.SignedReplies.{nsec_records_of}
use Rattle.dns_signed_reply.proofs.NearLaws.{near_none, near_some}
use Rattle.dns_signed_reply.proofs.denials.deny.Goals as goal

pub returns-in-Some : goal.returns-in-Some
returns-in-Some c =
    let s = c.args.zone.now in
    let name = c.args.name.now in
    let n = c.in-Some.nsec.now in
    let v = c.chain-chain.ensures.value in
    let l = subst (λ (ns : List NsecState). IsLastOf ns name c.in_ok-found.found) v c.in_ok-found.ensures.last in
    let k = rw c.in-Some.is at l in
    let sorted = subst AreSorted (c.nsecs-sorted.ensures.value ∙ v) c.nsecs-sorted.ensures.sorted in
    on_ok c.add_nsec.result c.add_nsec.ensures
    (λ e. e ∙ (ap (λ (z : ZoneState). nsec_records_of z c.args.into.now.items (n ∷ [])) c.zone.ensures ∙ ap (nsec_records_of s.zone c.args.into.now.items) (sym (near_some s.nsecs sorted name n k))))

pub returns-in-None : goal.returns-in-None
returns-in-None c =
    let s = c.args.zone.now in
    let name = c.args.name.now in
    let v = c.chain-chain.ensures.value in
    let l = subst (λ (ns : List NsecState). IsLastOf ns name c.in_ok-found.found) v c.in_ok-found.ensures.last in
    let k = rw c.in-None.is at l in
    let sorted = subst AreSorted (c.nsecs-sorted.ensures.value ∙ v) c.nsecs-sorted.ensures.sorted in
    ap (nsec_records_of s.zone c.args.into.now.items) (sym (near_none s.nsecs sorted name k))
