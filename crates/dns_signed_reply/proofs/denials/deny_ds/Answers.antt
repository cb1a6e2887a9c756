use Rattle.std.proofs.Common.{◌≡◌, [], ◌∷◌, ℕ, List, Some, None, ap, subst, ◌∙◌}
use Rattle.std.specs.Prelude.{if◌then◌else◌}
use Rattle.std.specs.List.{flat_map}
use Rattle.dns_zone.specs.Owned.{ZoneState}
use Rattle.dns_zone.specs.Places.{at_places}
use Rattle.dns_zone_tree.proofs.KeptLaws.{on_ok}
use Rattle.dns_zone_tree.specs.Kinds.{kind_places}
use Rattle.dns_zone_tree.specs.Wildcards.{are_some}
use Rattle.dns_denial.specs.Chains.{IsWhole}
use Rattle.dns_denial.specs.Nsecs.{NsecState}
use Rattle.dns_name_server.specs.Steps.{head_of}
use Rattle.dns_signed_reply.specs.SignedReplies.{denied, nearest, nsec_records_of, owned_records}
use Rattle.dns_signed_reply.proofs.NearLaws.{cut_denied, cut_some, none_of, owner_of}
use Rattle.dns_signed_reply.proofs.StepLaws.{head_at}
use Rattle.dns_signed_reply.proofs.denials.deny_ds.Goals as goal

pub returns-in-Some : goal.returns-in-Some
returns-in-Some c = λ t name h.
    let s = c.args.zone.now in
    let z = s.zone in
    let w = subst (λ (ns : List NsecState). IsWhole z ns) c.chain-chain.ensures.value c.chain-chain.ensures.whole in
    let rs = at_places z.records (kind_places 2 c.args.kinds.now) in
    let r = c.in-Some.server.now in
    let o : c.as_slice.result.now ≡ rs = c.as_slice.ensures.value ∙ (c.in_ok-servers.ensures ∙ ap (λ (x : ZoneState). at_places x.records (kind_places 2 c.args.kinds.now)) c.zone.ensures) in
    let e : Some r ≡ head_of rs = c.in-Some.ensures.value ∙ (head_at c.as_slice.result.now ∙ ap head_of o) in
    let cut = c.for_ref.result in
    let k : (if are_some (owned_records z cut 43) then [] else cut ∷ []) ≡ denied z t name = cut_denied z s.nsecs w t name rs h cut (c.for_ref.ensures.value ∙ owner_of rs r e) in
    on_ok c.deny_insecure.result c.deny_insecure.ensures (λ f. f ∙ ap (λ (l : List (List (List ℕ))). nsec_records_of z c.args.into.now.items (flat_map (nearest s.nsecs) l)) k)

pub returns : goal.returns
returns c = λ t name h.
    let s = c.args.zone.now in
    let z = s.zone in
    let w = subst (λ (ns : List NsecState). IsWhole z ns) c.chain-chain.ensures.value c.chain-chain.ensures.whole in
    let rs = at_places z.records (kind_places 2 c.args.kinds.now) in
    let o : c.as_slice.result.now ≡ rs = c.as_slice.ensures.value ∙ (c.in_ok-servers.ensures ∙ ap (λ (x : ZoneState). at_places x.records (kind_places 2 c.args.kinds.now)) c.zone.ensures) in
    let e : None ≡ head_of rs = c.in-None.ensures.value ∙ (head_at c.as_slice.result.now ∙ ap head_of o) in
    absurd (cut_some z s.nsecs w t name rs h (none_of rs e))
