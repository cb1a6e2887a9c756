-- A request that is done, or none.
use Rattle.std.specs.Prelude.{◌≡◌, true, Option, Some, None}
use Rattle.dns_session.specs.Slate.{SlateRequest}

abbrev pub IsFinished : Option SlateRequest → Type 0
IsFinished None = Unit {0}
IsFinished (Some r) = r.done ≡ true
