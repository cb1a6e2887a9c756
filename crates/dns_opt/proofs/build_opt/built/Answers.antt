use Rattle.dns_opt.proofs.build_opt.built.Goals as goal

pub returns : goal.returns
returns g c = record { answer = _; left = _; met = rw c.open-opt.ensures at c.called-opt.ensures; ends = c.ended.ensures }
