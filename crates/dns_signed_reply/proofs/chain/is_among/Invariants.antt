use Rattle.std.proofs.Common.{◌≡◌, drop}
use Rattle.std.specs.List.{list_any}
use Rattle.dns_name.specs.Canonical.{same_name}
use Rattle.dns_signed_reply.proofs.chain.is_among.Given as goal

abbrev pub invariant-each : goal.invariant-each
invariant-each l = list_any (same_name l.name) (drop l.other-index l.names) ≡ list_any (same_name l.name) l.names
