-- Which number stands for what is registered: those of the listeners come first, and after them each port and each connection of a
-- client has numbers of its own.
use Rattle.std.specs.Prelude.{ℕ, ◌+◌, ◌-◌, ◌*◌, ◌/◌, ◌%◌, ◌<◌, ◌==◌, nat_lt, if◌then◌else◌}
use Rattle.forwardd.specs.declared.token.Source.{Source}
use Rattle.forwardd.specs.declared.token.Source.TheVariants.{Datagrams, Connections, Socket, Upstream, Client}

-- the number, if there are that many listeners
abbrev pub number_of : ℕ → Source → ℕ
number_of n (Datagrams k) = k
number_of n (Connections k) = n + k
number_of n (Socket k) = 2 * n + 3 * k
number_of n (Upstream k) = 2 * n + 3 * k + 1
number_of n (Client k) = 2 * n + 3 * k + 2

-- what a number after those of the listeners stands for
abbrev pub source_behind : ℕ → Source
source_behind m = if m % 3 == 0 then Socket (m / 3) else (if m % 3 == 1 then Upstream (m / 3) else Client (m / 3))

-- what a number stands for
abbrev pub source_of : ℕ → ℕ → Source
source_of n t = if nat_lt t n then Datagrams t else (if nat_lt (t - n) n then Connections (t - n) else source_behind (t - n - n))

-- a listener is one of that many
abbrev pub IsThere : ℕ → Source → Type 0
IsThere n (Datagrams k) = k < n
IsThere n (Connections k) = k < n
IsThere n (Socket k) = Unit {0}
IsThere n (Upstream k) = Unit {0}
IsThere n (Client k) = Unit {0}
