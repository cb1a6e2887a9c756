use Rattle.std.specs.List.{AllZip}
use Rattle.dns_listener.specs.RunningListeners.{IsOf}
use Rattle.dns_listener.proofs.closing.take_back.Given as goal

abbrev pub invariant-each : goal.invariant-each
invariant-each g l =
    (goal.iterator-each g).can_next l.one-iterator × (goal.iterator-each g).is_finite l.one-iterator
    × AllZip IsOf l.yielded l.listeners.items
