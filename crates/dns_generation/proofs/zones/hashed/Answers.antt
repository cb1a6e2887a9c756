use Rattle.std.proofs.Common.{List, subst}
use Rattle.dns_denial.specs.Nsec3.{IsWhole3, Nsec3State}
use Rattle.dns_generation.proofs.zones.hashed.Goals as goal

pub returns-in-Ok-clause-ok : goal.returns-in-Ok-clause-ok
returns-in-Ok-clause-ok c =
    let s = c.in-Ok.zone in
    let w = subst (λ (ns : List Nsec3State). IsWhole3 s.zone s.hashing ns) c.chain-whole.ensures.value c.chain-whole.ensures.whole in
    record { data_ = (c.requires.some, record { made = c.in-Ok.ensures; whole = w }) }
