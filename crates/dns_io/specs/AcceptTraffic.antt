-- How connections come. In each, a is what the accept object tells before a call, and b after it.
use Rattle.std.specs.Prelude.{◌≡◌, ℕ, ◌+◌, List, [], ◌∷◌, ◌++◌}
use Rattle.dns_name.specs.declared.address.SocketAddr.{SocketAddr}
use Rattle.dns_io.specs.Causes.{Rose}
use Rattle.dns_io.specs.declared.accept.AcceptAnswer.{AcceptAnswer}
use Rattle.dns_io.specs.declared.accept.AcceptAnswer.TheVariants.{Accepted, Again, Failed}

-- what an accept object tells of its calls so far
pub record AcceptTraffic : Type 0 where
  pub callers : List SocketAddr  -- the addresses of the connections accepted
  pub empty_accepts : ℕ  -- the calls that answered Again

-- one call
abbrev pub AcceptMoves : {L : Type 0} → AcceptAnswer L → AcceptTraffic → AcceptTraffic → Type 0
AcceptMoves (Accepted link from) a b = b ≡ record a { callers = a.callers ++ from ∷ [] }
AcceptMoves Again a b = b ≡ record a { empty_accepts = a.empty_accepts + 1 }
AcceptMoves Failed a b = b ≡ a

-- the count of faults rises with a failed call, and with no other
abbrev pub AcceptCause : {L : Type 0} → AcceptAnswer L → ℕ → ℕ → Type 0
AcceptCause (Accepted link from) a b = b ≡ a
AcceptCause Again a b = b ≡ a
AcceptCause Failed a b = Rose a b
