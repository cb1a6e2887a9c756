use Rattle.std.proofs.Common.{◌≡◌, map, ap, sym, ◌∙◌}
use Rattle.dns_base.specs.Records.{data_type}
use Rattle.dns_denial.specs.Signed.{is_signature}
use Rattle.dns_signed_reply.specs.SignedReplies.{timed}
use Rattle.dns_signed_reply.proofs.LoopLaws.{none_kept, one_kept, put_none, put_one}
use Rattle.dns_signed_reply.proofs.rrsigs.add_covering.Goals as goal

pub returns-then-is_signature : goal.returns-then-is_signature
returns-then-is_signature c =
    let r = c.args.signed.now in
    let s = c.args.signature.now in
    let e : c.is_signature.result ≡ is_signature (data_type r.rdata) s = c.is_signature.ensures ∙ ap (λ t. is_signature t s) (c.to_int.ensures.value ∙ c.rtype.ensures) in
    put_one _ (timed r s) c.in_ok-copy.copy c.args.into.now.items c.push.new.self.items (ap (map (timed r)) (one_kept (is_signature (data_type r.rdata)) s (sym e ∙ c.if-is_signature.true))) c.in_ok-copy.ensures c.in_ok-push.ensures.items

pub returns : goal.returns
returns c =
    let r = c.args.signed.now in
    let s = c.args.signature.now in
    let e : c.is_signature.result ≡ is_signature (data_type r.rdata) s = c.is_signature.ensures ∙ ap (λ t. is_signature t s) (c.to_int.ensures.value ∙ c.rtype.ensures) in
    put_none _ c.args.into.now.items (ap (map (timed r)) (none_kept (is_signature (data_type r.rdata)) s (sym e ∙ c.if-is_signature.false)))
