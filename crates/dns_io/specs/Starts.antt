-- What a spawner was given. In each, a is what it tells before a call, and b after it.
use Rattle.std.specs.Prelude.{◌≡◌, ◌⊎◌, ℕ, List, [], ◌∷◌, ◌++◌, Bool, true, false, Result, Ok, Err}
use Rattle.dns_name.specs.declared.address.SocketAddr.{SocketAddr}
use Rattle.dns_name.specs.declared.error.OutOfMemory.{OutOfMemory}
use Rattle.dns_io.specs.Causes.{Rose}
use Rattle.dns_io.specs.declared.spawner.Start.{Start}
use Rattle.dns_io.specs.declared.spawner.Start.TheVariants.{Started, Failed}

-- a call of `start` with work of this address; one that finds no memory may have kept the address or not
abbrev pub StartMoves : Result Start OutOfMemory → SocketAddr → List SocketAddr → List SocketAddr → Type 0
StartMoves (Ok s) addr a b = b ≡ a ++ addr ∷ []
StartMoves (Err e) addr a b = (b ≡ a ++ addr ∷ []) ⊎ (b ≡ a)

-- the count of faults rises with a refused start, and with no other
abbrev pub StartCause : Result Start OutOfMemory → ℕ → ℕ → Type 0
StartCause (Ok Started) a b = b ≡ a
StartCause (Ok Failed) a b = Rose a b
StartCause (Err e) a b = b ≡ a

-- a leave to start a thread for work of this address
abbrev pub PermitMoves : Result Bool OutOfMemory → SocketAddr → List SocketAddr → List SocketAddr → Type 0
PermitMoves (Ok may) addr a b = b ≡ a ++ addr ∷ []
PermitMoves (Err e) addr a b = b ≡ a

-- the count of faults rises if leave is refused, and only then
abbrev pub PermitCause : Result Bool OutOfMemory → ℕ → ℕ → Type 0
PermitCause (Ok true) a b = b ≡ a
PermitCause (Ok false) a b = Rose a b
PermitCause (Err e) a b = b ≡ a
