use Rattle.std.proofs.Common.{◌≡◌, ◌+◌, drop}
use Rattle.dns_presentation.specs.ServiceParams.{place_of}
use Rattle.dns_presentation.proofs.service_params.Params.place_of.Given as goal

abbrev pub invariant-loop-param : goal.invariant-loop-param
invariant-loop-param l = record {
  place : l.at ≡ l.param-index;
  so_far : l.at + place_of l.key (drop l.param-index l.param-items) ≡ place_of l.key l.self.list;
}
