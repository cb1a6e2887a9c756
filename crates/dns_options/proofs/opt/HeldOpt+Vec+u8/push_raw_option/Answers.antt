use Rattle.std.proofs.Common.{rules, refl}
use Rattle.dns_options.proofs.Lists.{longer_list}
use Rattle.dns_options.proofs.opt.HeldOpt+Vec+u8.push_raw_option.Goals as goal

pub invariant_of-self-in-Ok : goal.invariant_of-self-in-Ok
invariant_of-self-in-Ok g c = longer_list c.self.inside.octets c.to_int.result c.in-Ok.octets.items c.append_option.new.octets.items (search rules) (search rules) (search rules)

pub returns-in-Err : goal.returns-in-Err
returns-in-Err g c =
    let h = rw c.in-Err.is at c.in_ok-octets.ensures in
    (search rules, (c.in-Err.octets.items, h.0, refl, search rules, h.1), refl)
