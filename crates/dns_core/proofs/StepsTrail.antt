-- Which replies a client was sent that hears of the server's changes when it looks.
use Rattle.dns_session.specs.Serving.{Serving}
use Rattle.std.proofs.Common.{ℕ, List, []}
use Rattle.dns_events.specs.declared.event.Step.{Step}
use Rattle.dns_session.specs.Slate.{fresh}
use Rattle.dns_core.specs.Outs.{placed_slate}
use Rattle.dns_core.specs.Placed.{placed}
use Rattle.dns_core.specs.Sent.{sent}
use Rattle.dns_core.specs.Settings.{opening}
use Rattle.dns_core.specs.Trails.{messages_sent, no_trail, trail_after}
use Rattle.dns_events.specs.declared.settings.Settings.{Settings}
use Rattle.dns_core.proofs.Trailing.{Kept}
use Rattle.dns_core.proofs.TrailRules.{first_kept, kept_after}

module _ (answers : Serving) where
  pub placed_kept : (settings : Settings) (c : ℕ) (steps : List Step) → Kept answers (placed_slate answers settings c steps) (trail_after answers (fresh (opening settings)) no_trail (placed settings c steps)) (messages_sent (sent answers settings (placed settings c steps)))
  unfolding placed_slate sent
  placed_kept settings c steps = kept_after answers (placed settings c steps) (fresh (opening settings)) no_trail [] (first_kept answers (opening settings))
