use Rattle.std.proofs.Common.{◌≡◌, drop}
use Rattle.dns_presentation.specs.ServiceParams.{has_key}
use Rattle.dns_presentation.proofs.service_params.Params.has_key.Given as goal

abbrev pub invariant-loop-param : goal.invariant-loop-param
invariant-loop-param l = has_key l.key (drop l.param-index l.param-items) ≡ has_key l.key l.self.list
