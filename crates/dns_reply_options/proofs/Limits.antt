-- The limit of a reply over UDP.
use Rattle.std.proofs.Common.{◌≤◌, ℕ, arith}
use Rattle.std.specs.Prelude.{Option, Some, None}
use Rattle.dns_service.specs.Transport.{limit}

pub at_least : (h : Option ℕ) → 512 ≤ limit h
at_least None = search arith
at_least (Some h) = search arith
