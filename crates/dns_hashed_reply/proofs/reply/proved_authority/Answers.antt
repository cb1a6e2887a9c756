use Rattle.std.proofs.Common.{◌≡◌, List, ◌++◌, ap, ◌∙◌}
use Rattle.std.specs.List.{flat_map}
use Rattle.dns_message.specs.declared.record.Record.{Record}
use Rattle.dns_zone_tree.proofs.KeptLaws.{if_ok}
use Rattle.dns_signed_reply.specs.SignedReplies.{ds_of, with_rrsigs}
use Rattle.dns_hashed_reply.specs.HashedReplies.{group_at}
use Rattle.dns_hashed_reply.proofs.reply.proved_authority.Goals as goal

pub returns : goal.returns
returns c =
    let s = c.args.zone.now in
    let a = c.args.authority.items in
    let d : c.in_ok-ds.ds.items ≡ ds_of s.zone a = c.in_ok-ds.ensures ∙ (λ i. ds_of (c.zone.ensures i) (c.as_slice.ensures.value i)) in
    let f : c.in_ok-referred.referred.items ≡ a ++ ds_of s.zone a = c.in_ok-referred.ensures ∙ ap (λ (l : List Record). a ++ l) d in
    let g : c.in_ok-signed.signed.items ≡ with_rrsigs s.zone (a ++ ds_of s.zone a) = c.in_ok-signed.ensures ∙ (λ i. with_rrsigs (c.zone-2.ensures i) (f i)) in
    if_ok (λ v. v.items ≡ c.in_ok-signed.signed.items ++ c.in_ok-hashed.hashed.items) (λ v. v.items ≡ with_rrsigs s.zone (a ++ ds_of s.zone a) ++ flat_map (group_at s) c.args.places.now) c.extended-2.result c.extended-2.ensures
    (λ v e. e ∙ (λ i. g i ++ c.in_ok-hashed.ensures i))
