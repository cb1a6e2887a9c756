-- What one client is sent, read off what all are sent.
use Rattle.dns_session.specs.Serving.{Serving}
use Rattle.std.specs.Prelude.{◌≡◌, ℕ, List, length, take, nat_eq, Bool, not, ◌&&◌}
use Rattle.std.specs.List.{list_any}
use Rattle.dns_events.specs.declared.event.Event.{Event}
use Rattle.dns_events.specs.declared.event.Output.{Output}
use Rattle.dns_events.specs.declared.event.Output.TheVariants.{Datagram, Frame, Closed, TurnedAway}
use Rattle.dns_core.specs.Sent.{slate}
use Rattle.dns_core.specs.Out.{is_unused, members}
use Rattle.dns_events.specs.declared.settings.Settings.{Settings}

-- the client that an output is for
abbrev pub client_of : Output → ℕ
client_of (Datagram client octets) = client
client_of (Frame client octets) = client
client_of (Closed client why) = client
client_of (TurnedAway client accepted) = client

abbrev pub is_for : ℕ → Output → Bool
is_for c o = nat_eq (client_of o) c

-- the front of a list is another
abbrev pub IsPrefix : {X : Type 0} → List X → List X → Type 0
IsPrefix xs ys = take (length xs) ys ≡ xs

module _ (answers : Serving) (settings : Settings) where
  -- an exchange or a connection
  abbrev pub is_member : ℕ → List Event → Bool
  is_member c es = list_any (nat_eq c) (members answers settings es)

  -- a client that began, and is no exchange and no connection
  abbrev pub was_turned_away : ℕ → List Event → Bool
  was_turned_away c es = not (is_unused (slate answers settings c es).phase) && not (is_member c es)
