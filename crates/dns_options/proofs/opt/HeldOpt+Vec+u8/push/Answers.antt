use Rattle.std.proofs.Common.{rules}
use Rattle.dns_options.proofs.Lists.{longer_list}
use Rattle.dns_options.proofs.opt.HeldOpt+Vec+u8.push.Goals as goal

pub invariant_of-self-2 : goal.invariant_of-self-2
invariant_of-self-2 g c = longer_list c.self.inside.octets (g.D.OptData.code_of c.args.value.now) (g.D.ComposeOptData.octets c.args.value.now) c.append_value.new.octets.items (search rules) (search rules) (search rules)
