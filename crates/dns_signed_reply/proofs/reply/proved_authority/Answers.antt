use Rattle.std.proofs.Common.{◌≡◌, List, ◌++◌, ap, ◌∙◌}
use Rattle.dns_message.specs.declared.record.Record.{Record}
use Rattle.dns_zone_tree.proofs.KeptLaws.{if_ok}
use Rattle.dns_signed_reply.specs.SignedReplies.{denials, ds_of}
use Rattle.dns_signed_reply.proofs.reply.proved_authority.Goals as goal

pub returns : goal.returns
returns c =
    let s = c.args.zone.now in
    let a = c.args.authority.items in
    let ns = denials s c.args.question.now c.args.answers.now in
    let d : c.in_ok-ds.ds.items ≡ ds_of s.zone a = c.in_ok-ds.ensures ∙ (λ i. ds_of (c.zone.ensures i) (c.as_slice.ensures.value i)) in
    let f : c.in_ok-referred.referred.items ≡ a ++ ds_of s.zone a = c.in_ok-referred.ensures ∙ ap (λ (l : List Record). a ++ l) d in
    if_ok (λ v. v.items ≡ c.in_ok-referred.referred.items ++ c.in_ok-nsecs.nsecs.items) (λ v. v.items ≡ (a ++ ds_of s.zone a) ++ ns) c.extended-2.result c.extended-2.ensures
    (λ v e. e ∙ (λ i. f i ++ c.in_ok-nsecs.ensures i))
