-- A piece that is cut in two changes nothing of what is sent.
use Rattle.dns_session.specs.Serving.{Serving}
use Rattle.std.proofs.Common.{◌≡◌, List, [], ◌∷◌, ◌++◌, ap, ◌∙◌, append_assoc}
use Rattle.dns_events.specs.declared.event.Event.{Event}
use Rattle.dns_events.specs.declared.event.Output.{Output}
use Rattle.dns_session.specs.Slate.{Slate, fresh}
use Rattle.dns_session.specs.Pieces.{IsCut}
use Rattle.dns_session.specs.Rule.{rule}
use Rattle.dns_core.specs.Settings.{opening}
use Rattle.dns_core.specs.Sent.{sent_after, sent}
use Rattle.dns_events.specs.declared.settings.Settings.{Settings}

module _ (answers : Serving) (whole former latter : Event) (cut : (s : Slate) → IsCut answers whole former latter s) where
  cut_after : (p r : List Event) (s : Slate) → sent_after answers s (p ++ whole ∷ r) ≡ sent_after answers s (p ++ former ∷ latter ∷ r)
  cut_after [] r s =
      let k = cut s in
      ap (λ (os : List Output). os ++ sent_after answers (rule answers whole s).0 r) k.says
      ∙ ap (λ (t : Slate). ((rule answers former s).1 ++ (rule answers latter (rule answers former s).0).1) ++ sent_after answers t r) k.slate
      ∙ append_assoc (rule answers former s).1 (rule answers latter (rule answers former s).0).1 (sent_after answers (rule answers latter (rule answers former s).0).0 r)
  cut_after (x ∷ p) r s = ap (λ (os : List Output). (rule answers x s).1 ++ os) (cut_after p r (rule answers x s).0)

  pub cut_sent : (settings : Settings) (p r : List Event) → sent answers settings (p ++ whole ∷ r) ≡ sent answers settings (p ++ former ∷ latter ∷ r)
  unfolding sent
  cut_sent settings p r = cut_after p r (fresh (opening settings))
