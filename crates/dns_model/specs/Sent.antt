-- What one client is sent for the events that it hears, from the oldest to the newest, and the slate that it has after them.
use Rattle.dns_session.specs.Serving.{Serving}
use Rattle.std.specs.Prelude.{ℕ, List, [], ◌∷◌}
use Rattle.dns_events.specs.declared.event.Event.{Event}
use Rattle.dns_events.specs.declared.event.Output.{Output}
use Rattle.dns_session.specs.Slate.{Slate, Conf, conf_rule, fresh}
pub use Rattle.dns_session.specs.After.{slate_after, sent_after}
use Rattle.dns_model.specs.Settings.{opening}
use Rattle.dns_model.specs.Own.{own}
use Rattle.dns_events.specs.declared.settings.Settings.{Settings}

-- the configurations that are in force after some events
abbrev pub conf_after : Conf → List Event → Conf
conf_after c [] = c
conf_after c (e ∷ es) = conf_after (conf_rule e.kind c) es

unfoldable pub conf : Settings → List Event → Conf
conf settings es = conf_after (opening settings) es

-- the answers are those of the wrapped service, by request and poll
module _ (answers : Serving) (settings : Settings) where
  unfoldable pub sent : List Event → List Output
  sent es = sent_after answers (fresh (opening settings)) es

  -- the slate of a client after the events of all
  unfoldable pub slate : ℕ → List Event → Slate
  slate c q = slate_after answers (fresh (opening settings)) (own c q)
