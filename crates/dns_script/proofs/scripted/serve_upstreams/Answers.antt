use Rattle.dns_script.proofs.scripted.serve_upstreams.Goals as goal

pub returns : goal.returns
returns g c = rw (← c.in_ok-forwarder.ensures) c.serve_single.ensures
