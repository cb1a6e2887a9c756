use Rattle.std.proofs.Common.{sym, ◌∙◌, arith}
use Rattle.dns_denial.proofs.HashedChoice.{ends_up, no_zone}
use Rattle.dns_denial.proofs.hashed_denial.closest_of.Goals as goal

pub returns-then-found : goal.returns-then-found
returns-then-found c =
    ends_up c.args.hashing.now c.args.nsecs.now c.args.name.now c.labels.left c.labels.next.now c.in_ok-found.found.nsec.now c.behind-above.result (omega (arith, c.labels-test.true, c.label_count.ensures)) c.as_slice-octets.ensures.named c.labels.invariant c.behind-above.ensures
    c.in_ok-found.ensures.nsec (sym c.in_ok-found.ensures.matched ∙ c.if-found.true)

pub returns : goal.returns
returns c = no_zone c.args.hashing.now c.args.nsecs.now c.args.name.now c.labels.left c.labels.next.now (omega (arith, c.labels-test.false, c.label_count.ensures)) c.labels.invariant
