use Rattle.std.proofs.Common.{◌≡◌, List, ◌++◌, map, ap, sym, ◌∙◌}
use Rattle.dns_base.specs.Records.{data_type, record_of}
use Rattle.dns_message.specs.declared.record.Record.{Record}
use Rattle.dns_zone_tree.proofs.KeptLaws.{on_ok}
use Rattle.dns_denial.specs.Signed.{is_signature}
use Rattle.dns_signed_reply.specs.SignedReplies.{timed}
use Rattle.dns_signed_reply.proofs.LoopLaws.{none_kept, one_kept, put_none}
use Rattle.dns_signed_reply.proofs.placed.write_covering.Goals as goal

pub returns-then-is_signature : goal.returns-then-is_signature
returns-then-is_signature c =
    let r = c.args.signed.now in
    let s = c.args.signature.now in
    let e : c.is_signature.result ≡ is_signature (data_type r.rdata) s = c.is_signature.ensures ∙ ap (λ t. is_signature t s) (c.to_int.ensures.value ∙ c.rtype.ensures) in
    let k = ap (λ (l : List Record). c.args.into.now ++ map record_of (map (timed r) l)) (one_kept (is_signature (data_type r.rdata)) s (sym e ∙ c.if-is_signature.true)) in
    on_ok c.write_timed.result c.write_timed.ensures (λ f. f ∙ sym k)

pub returns : goal.returns
returns c =
    let r = c.args.signed.now in
    let s = c.args.signature.now in
    let e : c.is_signature.result ≡ is_signature (data_type r.rdata) s = c.is_signature.ensures ∙ ap (λ t. is_signature t s) (c.to_int.ensures.value ∙ c.rtype.ensures) in
    put_none _ c.args.into.now (ap (λ (l : List Record). map record_of (map (timed r) l)) (none_kept (is_signature (data_type r.rdata)) s (sym e ∙ c.if-is_signature.false)))
