use Rattle.std.proofs.Common.{sym, ◌∙◌}
use Rattle.dns_zone_tree.proofs.KeptLaws.{on_ok}
use Rattle.dns_signed_reply.proofs.RrsigLaws.{is_signed, was_seen, was_signed}
use Rattle.dns_signed_reply.proofs.rrsigs.add_rrsigs.Goals as goal

pub returns-then-has_beside : goal.returns-then-has_beside
returns-then-has_beside c = was_seen c.args.zone.now c.args.records.now c.args.seen.now c.args.one.now c.args.into.now.items (sym c.has_beside.ensures ∙ c.if-has_beside.true)

pub returns-then-have_signatures : goal.returns-then-have_signatures
returns-then-have_signatures c =
    was_signed c.args.zone.now c.args.records.now c.args.seen.now c.args.one.now c.args.into.now.items (sym c.has_beside.ensures ∙ c.if-has_beside.false) (sym c.have_signatures.ensures ∙ c.if-have_signatures.true)

pub returns : goal.returns
returns c =
    on_ok c.add_signatures.result c.add_signatures.ensures
    (λ e. is_signed c.args.zone.now c.args.records.now c.args.seen.now c.args.one.now c.args.into.now.items c.add_signatures.new.into.items (sym c.has_beside.ensures ∙ c.if-has_beside.false) (sym c.have_signatures.ensures ∙ c.if-have_signatures.false) e)
