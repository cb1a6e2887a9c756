-- How many replies a client's events queue in one window of time, and which configurations limit them.
use Rattle.std.specs.Prelude.{◌≡◌, ℕ, ◌+◌, ◌-◌, ◌/◌, ◌≤◌, ◌==◌, if◌then◌else◌, List, [], ◌∷◌, length, IsSomeAnd}
use Rattle.dns_service.specs.Config.{Connection}
use Rattle.dns_events.specs.declared.event.Event.{Event}
use Rattle.dns_events.specs.declared.event.EventKind.{EventKind}
use Rattle.dns_events.specs.declared.event.EventKind.TheVariants.{Reconfigure}
use Rattle.dns_session.specs.Serving.{Serving}
use Rattle.dns_session.specs.Slate.{Slate}
use Rattle.dns_session.specs.Rule.{rule}

-- windows are w milliseconds long, and in each at most b replies may be queued
abbrev pub AllowsAtMost : ℕ → ℕ → Connection → Type 0
AllowsAtMost b w c = IsSomeAnd c.response_budget (λ allowed. allowed ≤ b) × (c.budget_window ≡ w)

-- a reconfigure allows at most b replies in windows of w milliseconds; of other events nothing is asked
abbrev pub StaysAtMost : ℕ → ℕ → EventKind → Type 0
StaysAtMost b w (Reconfigure dgram stream) = AllowsAtMost b w stream.connection_config
StaysAtMost b w _ = Unit {0}

-- by how many replies the queue grew, at those events whose moments lie in window n
abbrev pub queued_in : Serving → ℕ → ℕ → Slate → List Event → ℕ
queued_in answers w n s [] = 0
queued_in answers w n s (e ∷ es) =
    let after = (rule answers e s).0 in
    (if e.at / w == n then length after.queue - length s.queue else 0) + queued_in answers w n after es
