use Rattle.std.proofs.Common.{sym, ap, ◌∙◌}
use Rattle.std.specs.Option.{option_copied}
use Rattle.dns_nsec3_data.specs.Nsec3Data.{is_used}
use Rattle.dns_nsec3_data.proofs.ParamLaws.{first_kept, none_kept}
use Rattle.dns_nsec3_data.proofs.parameters.sole_used.Goals as goal

pub unreachable-requires : goal.unreachable-requires
unreachable-requires c =
    none_kept (is_used c.args.apex.now) c.args.records.now (sym c.first_used.ensures ∙ ap option_copied c.in-None.is) (sym c.used_count-count.ensures ∙ c.if-count-ne1.false)

pub returns : goal.returns
returns c =
    first_kept (is_used c.args.apex.now) c.args.records.now c.in-Some.resource.now (sym c.first_used.ensures ∙ ap option_copied c.in-Some.is) (sym c.used_count-count.ensures ∙ c.if-count-ne1.false)
