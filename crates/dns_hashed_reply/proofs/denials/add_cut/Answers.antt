use Rattle.std.proofs.Common.{◌≡◌, [], ℕ, List, false, Some, None, ap, subst, ◌∙◌}
use Rattle.std.specs.Prelude.{if◌then◌else◌}
use Rattle.dns_zone.specs.Owned.{ZoneState}
use Rattle.dns_zone.specs.Places.{at_places}
use Rattle.dns_zone_tree.proofs.KeptLaws.{on_ok}
use Rattle.dns_zone_tree.specs.Kinds.{kind_places}
use Rattle.dns_zone_tree.specs.Wildcards.{are_some}
use Rattle.dns_denial.specs.Nsec3.{IsWhole3, Nsec3State}
use Rattle.dns_denial.proofs.StartLaws.{starts}
use Rattle.dns_name_server.specs.Steps.{head_of}
use Rattle.dns_signed_reply.specs.SignedReplies.{owned_records}
use Rattle.dns_signed_reply.proofs.NearLaws.{none_of, owner_of}
use Rattle.dns_signed_reply.proofs.StepLaws.{head_at}
use Rattle.dns_hashed_reply.specs.Choices.{names_places}
use Rattle.dns_hashed_reply.specs.HashedReplies.{own_proof}
use Rattle.dns_hashed_reply.proofs.ChoiceLaws.{for_one}
use Rattle.dns_hashed_reply.proofs.MissingLaws.{cut_fine, cut_places, cut_some, server_inside}
use Rattle.dns_hashed_reply.proofs.denials.add_cut.Goals as goal

pub add_insecure-requires : goal.add_insecure-requires
add_insecure-requires c =
    let s = c.args.zone.now in
    let w = subst (λ (ns : List Nsec3State). IsWhole3 s.zone s.hashing ns) c.chain-chain.ensures.value c.chain-chain.ensures.whole in
    let rs = at_places s.zone.records (kind_places 2 c.args.kinds.now) in
    let r = c.in-Some.server.now in
    let o : c.as_slice.result.now ≡ rs = c.as_slice.ensures.value ∙ (c.in_ok-servers.ensures ∙ ap (λ (x : ZoneState). at_places x.records (kind_places 2 c.args.kinds.now)) c.zone.ensures) in
    let e : Some r ≡ head_of rs = c.in-Some.ensures.value ∙ (head_at c.as_slice.result.now ∙ ap head_of o) in
    server_inside s.zone (starts s.zone w.zone) (kind_places 2 c.args.kinds.now) r c.for_ref.result e c.for_ref.ensures.value

pub returns-in-Some : goal.returns-in-Some
returns-in-Some c = λ t name h.
    let s = c.args.zone.now in
    let z = s.zone in
    let w = subst (λ (ns : List Nsec3State). IsWhole3 z s.hashing ns) c.chain-chain.ensures.value c.chain-chain.ensures.whole in
    let rs = at_places z.records (kind_places 2 c.args.kinds.now) in
    let r = c.in-Some.server.now in
    let o : c.as_slice.result.now ≡ rs = c.as_slice.ensures.value ∙ (c.in_ok-servers.ensures ∙ ap (λ (x : ZoneState). at_places x.records (kind_places 2 c.args.kinds.now)) c.zone.ensures) in
    let e : Some r ≡ head_of rs = c.in-Some.ensures.value ∙ (head_at c.as_slice.result.now ∙ ap head_of o) in
    let cut = c.for_ref.result in
    on_ok c.add_insecure.result c.add_insecure.ensures (for_one s t c.args.chosen.now c.add_insecure.new.chosen name false (names_places s (if are_some (owned_records z cut 43) then [] else own_proof s cut))
    (cut_fine s w t name rs h) (cut_places s w t name rs h cut (c.for_ref.ensures.value ∙ owner_of rs r e)))

pub returns : goal.returns
returns c = λ t name h.
    let s = c.args.zone.now in
    let z = s.zone in
    let w = subst (λ (ns : List Nsec3State). IsWhole3 z s.hashing ns) c.chain-chain.ensures.value c.chain-chain.ensures.whole in
    let rs = at_places z.records (kind_places 2 c.args.kinds.now) in
    let o : c.as_slice.result.now ≡ rs = c.as_slice.ensures.value ∙ (c.in_ok-servers.ensures ∙ ap (λ (x : ZoneState). at_places x.records (kind_places 2 c.args.kinds.now)) c.zone.ensures) in
    let e : None ≡ head_of rs = c.in-None.ensures.value ∙ (head_at c.as_slice.result.now ∙ ap head_of o) in
    absurd (cut_some s w t name rs h (none_of rs e))
