-- When each answer of a book comes, by the state that the call meets. The cases exclude each other.
use Rattle.std.specs.Prelude.{◌≡◌, ℕ, ◌+◌, ◌<◌, ◌≤◌, ◌⊎◌, true, false, Result, Ok, Err}
use Rattle.dns_events.specs.declared.error.Error.{Error}
use Rattle.dns_events.specs.declared.error.Error.TheVariants.{CommandCouldNotBeSent}
use Rattle.dns_events.specs.declared.look.Look.{Look as State}
use Rattle.dns_admission.specs.declared.admission.Admission.{Admission}
use Rattle.dns_admission.specs.declared.admission.Admission.TheVariants.{Admitted, Full, Closed}
use Rattle.dns_admission.specs.Machine.{limit_of, last_version, admitted}

-- Admitted: open, with a free slot. Full: open, with none. Closed: closed
abbrev pub Admits : State → Admission → Type 0
Admits s (Admitted look) = (s.closed ≡ false) × (s.taken < limit_of s) × (look ≡ admitted s)
Admits s (Full taken limit accepted) =
    (s.closed ≡ false) × (limit ≤ taken) × (taken ≡ s.taken) × (limit ≡ limit_of s) × (accepted ≡ s.stream.accept_connections_at_max)
Admits s Closed = s.closed ≡ true

-- Ok: closed, and the version stays, or open, and it rises by one. The error: open, at the last version
abbrev pub Reconfigures : State → Result ℕ Error → Type 0
Reconfigures s (Ok version) =
    ((s.closed ≡ true) × (version ≡ s.version)) ⊎ ((s.closed ≡ false) × (s.version < last_version) × (version ≡ s.version + 1))
Reconfigures s (Err CommandCouldNotBeSent) = (s.closed ≡ false) × (s.version ≡ last_version)
