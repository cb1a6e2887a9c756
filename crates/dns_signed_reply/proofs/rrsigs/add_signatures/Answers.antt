use Rattle.std.proofs.Common.{◌≡◌, List, ◌++◌, map, ap, sym, ◌∙◌}
use Rattle.std.specs.Prelude.{true, false}
use Rattle.std.specs.List.{filter}
use Rattle.dns_base.specs.Records.{data_type}
use Rattle.dns_message.specs.declared.record.Record.{Record}
use Rattle.dns_route.specs.Routes.{ends_name}
use Rattle.dns_zone_tree.proofs.KeptLaws.{on_ok}
use Rattle.dns_zone_tree.specs.Wildcards.{had_records}
use Rattle.dns_denial.specs.Signed.{is_signature}
use Rattle.dns_signed_reply.specs.SignedReplies.{timed}
use Rattle.dns_signed_reply.proofs.LoopLaws.{put_none}
use Rattle.dns_signed_reply.proofs.NodeLaws.{inside_is, outside_is}
use Rattle.dns_signed_reply.proofs.rrsigs.add_signatures.Goals as goal

pub add_within-requires : goal.add_within-requires
add_within-requires c = sym (c.is_in_zone.ensures ∙ ap (λ n. ends_name n c.args.zone.now.apex) c.for_ref.ensures.value) ∙ c.if-is_in_zone.true

pub returns-then-is_in_zone : goal.returns-then-is_in_zone
returns-then-is_in_zone c =
    let z = c.args.zone.now in
    let r = c.args.signed.now in
    let i : ends_name r.owner z.apex ≡ true = sym (c.is_in_zone.ensures ∙ ap (λ n. ends_name n z.apex) c.for_ref.ensures.value) ∙ c.if-is_in_zone.true in
    let g : List Record → List Record = λ l. c.args.into.now.items ++ map (timed r) (filter (is_signature (data_type r.rdata)) l) in
    on_ok c.add_within.result c.add_within.ensures (λ e. e ∙ ap g (inside_is z r.owner (had_records z r.owner 46) i))

pub returns : goal.returns
returns c =
    let z = c.args.zone.now in
    let r = c.args.signed.now in
    let o : ends_name r.owner z.apex ≡ false = sym (c.is_in_zone.ensures ∙ ap (λ n. ends_name n z.apex) c.for_ref.ensures.value) ∙ c.if-is_in_zone.false in
    put_none _ c.args.into.now.items (ap (λ (l : List Record). map (timed r) (filter (is_signature (data_type r.rdata)) l)) (sym (outside_is z r.owner (had_records z r.owner 46) o)))
