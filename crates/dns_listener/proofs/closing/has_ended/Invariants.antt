use Rattle.std.proofs.Common.{◌≡◌, false, take}
use Rattle.std.specs.List.{All}
use Rattle.dns_listener.specs.RunningListeners.{met_closed}
use Rattle.dns_listener.proofs.closing.has_ended.Given as goal

abbrev pub invariant-each : goal.invariant-each
invariant-each g l = All (λ r. met_closed r ≡ false) (take l.one-index l.running)
