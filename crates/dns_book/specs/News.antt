-- What of a look is news.
use Rattle.std.specs.Prelude.{ℕ, Bool, not, ◌&&◌, ◌||◌, ◌==◌, if◌then◌else◌, Option, Some, None}
use Rattle.dns_events.specs.declared.look.Look.{Look as State}

-- nothing, to who heard of this version, and of the shutdown if there is one
abbrev pub is_heard : ℕ → Bool → State → Bool
is_heard version closed shown = (shown.version == version) && (closed || not shown.closed)

abbrev pub news_of : ℕ → Bool → State → Option State
news_of version closed shown = if is_heard version closed shown then None else Some shown
