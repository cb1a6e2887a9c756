use Rattle.std.proofs.Common.{rules, arith}
use Rattle.dns_replies.proofs.AddedOptions.{option_added, option_whole}
use Rattle.dns_replies.proofs.options.add_edns_option.Goals as goal

pub returns-clause-added : goal.returns-clause-added
returns-clause-added g c =
    option_added c.args.response.now c.add_edns_options.new.response (g.D.OptData.code_of c.args.option.now) (g.D.ComposeOptData.octets c.args.option.now) _ c.add_edns_options.result (omega (arith, c.push_limit-within_limits.ensures.value, c.push_limit-within_limits.ensures.limited))
    (λ answer left h. search rules) c.add_edns_options.ensures.built

pub returns-clause-whole : goal.returns-clause-whole
returns-clause-whole g c =
    option_whole c.args.response.now c.add_edns_options.new.response (g.D.OptData.code_of c.args.option.now) (g.D.ComposeOptData.octets c.args.option.now) c.add_edns_options.result (returns-clause-added g c)
