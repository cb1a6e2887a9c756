use Rattle.std.proofs.Common.{◌≡◌, ℕ, List, ◌++◌, map, ap, sym, subst, ◌∙◌}
use Rattle.std.specs.List.{filter}
use Rattle.dns_base.specs.Records.{data_type}
use Rattle.dns_message.specs.declared.record.Record.{Record}
use Rattle.dns_zone_tree.proofs.KeptLaws.{on_ok}
use Rattle.dns_zone_tree.specs.Walks.{ReachesNone}
use Rattle.dns_zone_tree.specs.Wildcards.{had_records}
use Rattle.dns_denial.specs.Signed.{is_signature}
use Rattle.dns_signed_reply.specs.SignedReplies.{timed}
use Rattle.dns_signed_reply.proofs.rrsigs.add_expanded.Goals as goal

pub returns : goal.returns
returns c = λ t h.
    let z = c.args.zone.now in
    let r = c.args.signed.now in
    let g : List Record → List Record = λ l. c.args.into.now.items ++ map (timed r) (filter (is_signature (data_type r.rdata)) l) in
    let n : c.for_ref.result ≡ r.owner = c.for_ref.ensures.value in
    let w = subst (λ (x : List (List ℕ)). ReachesNone z t x c.args.skipped) (sym n) h in
    on_ok c.add_all_covering.result c.add_all_covering.ensures
    (λ e. e ∙ ap g (c.as_slice.ensures.value ∙ (c.in_ok-had.ensures t w ∙ ap (λ (x : List (List ℕ)). had_records z x 46) n)))
