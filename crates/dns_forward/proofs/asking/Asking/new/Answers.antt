use Rattle.dns_forward.proofs.asking.Asking.new.Goals as goal

pub returns : goal.returns
returns c = rw (c.clamp.ensures, c.max.ensures) at c.of.ensures
