use Rattle.std.proofs.Common.{◌≡◌, sym, ◌∙◌, rules}
use Rattle.dns_options.specs.declared.all.AllOptData.TheVariants.{Cookie}
use Rattle.dns_option_list.proofs.ItemLaws.{refused_mapped}
use Rattle.dns_options.proofs.all.AllOptDataParseOptData.parse_option.Goals as goal

pub returns-in_err-parse-in-10 : goal.returns-in_err-parse-in-10
returns-in_err-parse-in-10 c =
    let ten : c.args.code ≡ 10 = sym c.to_int.ensures.value ∙ c.in-10.is in
    rw ten (refused_mapped Cookie _ _ _ _ _ _ c.parse-in-10.ensures c.in_err-parse-in-10.was (search rules))
