-- The steps of a truncation: a shorter message that fits, or another one.
use Rattle.std.specs.Prelude.{◌≡◌, ℕ, ◌≤◌, Bool, true, false, length, Option, Some, None, if◌then◌else◌}
use Rattle.dns_base.specs.Msg.{Msg}
use Rattle.dns_base.specs.Wire.{wire}
use Rattle.dns_base.specs.Built.{Built, PassesLimit}
use Rattle.dns_replies.specs.Cut.{fits}

-- a truncated message with these records more, if it fits; its own limit is the same
abbrev pub built_fitting : ℕ → Msg → Option Built
built_fitting n m = if fits n m then Some (record { message = m; limit = n }) else None

-- the first of two if there is one
abbrev pub or_else : {A : Type 0} → Option A → Option A → Option A
or_else (Some x) other = Some x
or_else None other = other

-- a record was added, or it had no room
abbrev pub Added : Built → Built → Built → Bool → Type 0
Added old new more true = (new ≡ more) × (length (wire more.message) ≤ more.limit)
Added old new more false = (new ≡ old) × PassesLimit more

-- what is built, if it fits
abbrev pub where_fitting : Built → Option Built
where_fitting b = built_fitting b.limit b.message

-- the first of two that fits was built, or neither fits
abbrev pub AddedEither : Built → Option Built → Option Built → Bool → Type 0
AddedEither new first second true = Some new ≡ or_else first second
AddedEither new first second false = None ≡ or_else first second
