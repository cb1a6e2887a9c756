use Rattle.dns_kinds.proofs.subnet.ClientSubnet.sent.Goals as goal

pub returns-clause-clear : goal.returns-clause-clear
returns-clause-clear c = rw (← c.self.view_is) (c.self.invariant, rw c.as_slice.ensures.value at c.prefix.ensures.fits)
