use Rattle.std.proofs.Common.{refl, arith, ap, length}
use Rattle.dns_base.specs.Built.{empty}
use Rattle.dns_base.proofs.Pushed.{built, new_drafted}
use Rattle.dns_base.proofs.Placed.{starts_all}
use Rattle.dns_base.proofs.draft.Draft.in_memory.Goals as goal

pub invariant_of-result : goal.invariant_of-result
invariant_of-result c =
    let o = c.in_ok-octets.octets.items in
    let k = new_drafted o c.in_ok-octets.ensures in
    (k.0, starts_all o 65535 12 (built empty 65535) c.all.result k.0 k.1 (record { answers = refl; authority = refl; additional = refl }) (omega (arith, ap length c.in_ok-octets.ensures)) c.all.ensures)

pub returns : goal.returns
returns c = (new_drafted c.in_ok-octets.octets.items c.in_ok-octets.ensures).1
