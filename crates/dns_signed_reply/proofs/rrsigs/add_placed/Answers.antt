use Rattle.std.proofs.Common.{List, ◌++◌, map, ap, sym, ◌∙◌}
use Rattle.std.specs.List.{filter}
use Rattle.dns_base.specs.Records.{data_type}
use Rattle.dns_message.specs.declared.record.Record.{Record}
use Rattle.dns_zone_tree.proofs.KeptLaws.{on_ok}
use Rattle.dns_denial.specs.Signed.{is_signature}
use Rattle.dns_signed_reply.specs.SignedReplies.{timed}
use Rattle.dns_signed_reply.proofs.LoopLaws.{put_none}
use Rattle.dns_signed_reply.proofs.rrsigs.add_placed.Goals as goal

pub returns-in-Some : goal.returns-in-Some
returns-in-Some c =
    let r = c.args.signed.now in
    let g : List Record → List Record = λ l. c.args.into.now.items ++ map (timed r) (filter (is_signature (data_type r.rdata)) l) in
    on_ok c.add_covering.result c.add_covering.ensures (λ e. e ∙ ap g (sym c.in-Some.ensures.value))

pub returns-in-None : goal.returns-in-None
returns-in-None c =
    let r = c.args.signed.now in
    put_none _ c.args.into.now.items (ap (λ (l : List Record). map (timed r) (filter (is_signature (data_type r.rdata)) l)) c.in-None.ensures.value)
