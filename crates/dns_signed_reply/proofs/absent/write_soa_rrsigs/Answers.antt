use Rattle.std.proofs.Common.{◌≡◌, ◌∷◌, [], List, ◌++◌, map, ap, sym, subst, ◌∙◌}
use Rattle.dns_base.specs.Records.{record_of}
use Rattle.dns_message.specs.declared.record.Record.{Record}
use Rattle.dns_zone.specs.Owned.{AreLawful}
use Rattle.dns_zone_tree.proofs.KeptLaws.{on_ok}
use Rattle.dns_signed_reply.specs.DirectReplies.{head_rrsigs, negatives}
use Rattle.dns_signed_reply.proofs.DirectLaws.{head_lawful}
use Rattle.dns_signed_reply.proofs.absent.write_soa_rrsigs.Goals as goal

pub add_written-requires : goal.add_written-requires
add_written-requires c =
    let z = c.args.zone.now in
    let r = c.negative.result.now in
    let e : c.add_signatures.new.into.items ≡ head_rrsigs z (r ∷ []) = c.in_ok-add_signatures.ensures ∙ ap (λ (l : List Record). l ++ head_rrsigs z (r ∷ [])) c.new-found.ensures.items in
    subst AreLawful (sym (c.as_slice.ensures.value ∙ e)) (head_lawful z (subst AreLawful c.records-lawful.ensures.value c.records-lawful.ensures.lawful) (r ∷ []))

pub returns : goal.returns
returns c =
    let z = c.args.zone.now in
    let r = c.negative.result.now in
    let e : c.add_signatures.new.into.items ≡ head_rrsigs z (r ∷ []) = c.in_ok-add_signatures.ensures ∙ ap (λ (l : List Record). l ++ head_rrsigs z (r ∷ [])) c.new-found.ensures.items in
    let g : c.as_slice.result.now ≡ head_rrsigs z (negatives z) = c.as_slice.ensures.value ∙ (e ∙ sym (ap (head_rrsigs z) c.negative.ensures.value)) in
    on_ok c.add_written.result c.add_written.ensures (λ f. f ∙ ap (λ (l : List Record). c.args.into.now ++ map record_of l) g)
