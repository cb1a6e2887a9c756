-- What one client is in steps: whether it is an exchange or a connection, begins, or was turned away.
use Rattle.std.specs.Prelude.{◌≡◌, ℕ, List, [], ◌∷◌, ◌++◌, length, filter, nat_eq, Bool, true, false, not, ◌&&◌}
use Rattle.std.specs.List.{list_any}
use Rattle.dns_admission.specs.Machine.{has_slot}
use Rattle.dns_events.specs.declared.event.Event.{Event}
use Rattle.dns_events.specs.declared.event.EventKind.{EventKind}
use Rattle.dns_events.specs.declared.event.EventKind.TheVariants.{Offer}
use Rattle.dns_events.specs.declared.event.Step.{Step}
use Rattle.dns_events.specs.declared.event.Step.TheVariants.{Own}
use Rattle.dns_session.specs.Serving.{Serving}
use Rattle.dns_core.specs.Out.{holds_slot, is_unused}
use Rattle.dns_core.specs.Outs.{membership, placed_slate}
use Rattle.dns_events.specs.declared.settings.Settings.{Settings}

abbrev pub is_offer : EventKind → Bool
is_offer (Offer addr) = true
is_offer _ = false

module _ (answers : Serving) (settings : Settings) where
  -- an exchange or a connection
  abbrev pub is_served : ℕ → List Step → Bool
  is_served c q = list_any (nat_eq c) (membership answers settings q).members

  -- the client of e begins with it: its number was unused, and is used now
  unfoldable pub is_first : List Step → Event → Bool
  is_first q e = is_unused (placed_slate answers settings e.client q).phase
      && not (is_unused (placed_slate answers settings e.client (q ++ Own e ∷ [])).phase)

  -- a client that began, and is no exchange and no connection
  abbrev pub was_refused : ℕ → List Step → Bool
  was_refused c q = not (is_unused (placed_slate answers settings c q).phase) && not (is_served c q)

  -- an offer under an unused number, before a shutdown, for which every slot is taken
  abbrev pub finds_no_slot : List Step → Event → Bool
  finds_no_slot q e = is_offer e.kind && (is_unused (placed_slate answers settings e.client q).phase
      && (not (membership answers settings q).book.closed && not (has_slot (membership answers settings q).book)))

  -- one of some steps is such an offer of a client
  pub record TurnedAwayIn (c : ℕ) (steps : List Step) : Type 0 where
    pub before : List Step
    pub offer : Event
    pub behind : List Step
    pub place : steps ≡ before ++ Own offer ∷ behind
    pub client : offer.client ≡ c
    pub full : finds_no_slot before offer ≡ true

  -- how many exchanges and connections hold a slot
  unfoldable pub slots_held : List Step → ℕ
  slots_held q = length (filter (λ c. holds_slot (placed_slate answers settings c q)) (membership answers settings q).members)
