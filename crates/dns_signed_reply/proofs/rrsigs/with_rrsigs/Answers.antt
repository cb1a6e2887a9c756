use Rattle.std.proofs.Common.{◌≡◌, [], List, ◌++◌, ap, ◌∙◌}
use Rattle.dns_message.specs.declared.record.Record.{Record}
use Rattle.dns_zone_tree.proofs.KeptLaws.{if_ok}
use Rattle.dns_signed_reply.specs.SignedReplies.{rrsigs, with_rrsigs}
use Rattle.dns_signed_reply.proofs.rrsigs.with_rrsigs.Goals as goal

pub returns : goal.returns
returns c =
    let z = c.args.zone.now in
    let rs = c.args.records.items in
    if_ok (λ v. v.items ≡ rs ++ c.in_ok-signatures.signatures.items) (λ v. v.items ≡ with_rrsigs z rs) c.extended.result c.extended.ensures
    (λ v e. e ∙ ap (λ (l : List Record). rs ++ l) (c.in_ok-signatures.ensures ∙ ap (λ (l : List Record). rrsigs z l [] l) c.as_slice.ensures.value))
