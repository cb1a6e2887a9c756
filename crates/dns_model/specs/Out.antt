-- What all clients are sent. Lists of events go from the oldest to the newest; an event e comes after the events q.
use Rattle.dns_session.specs.Serving.{Serving}
use Rattle.std.specs.Prelude.{ℕ, List, [], ◌∷◌, ◌++◌, length, filter, nat_lt, if◌then◌else◌, Bool, true, false, not, ◌&&◌, ◌||◌}
use Rattle.std.specs.List.{flat_map}
use Rattle.dns_events.specs.declared.event.Event.{Event}
use Rattle.dns_events.specs.declared.event.Output.{Output}
use Rattle.dns_events.specs.declared.event.Output.TheVariants.{TurnedAway}
use Rattle.dns_session.specs.Slate.{Slate, Phase, Unused, Exchange}
use Rattle.dns_session.specs.Rule.{rule}
use Rattle.dns_model.specs.Own.{concerns}
use Rattle.dns_model.specs.Sent.{conf, slate}
use Rattle.dns_events.specs.declared.settings.Settings.{Settings}

abbrev pub is_unused : Phase → Bool
is_unused Unused = true
is_unused _ = false

abbrev pub is_connection : Phase → Bool
is_connection Unused = false
is_connection Exchange = false
is_connection _ = true

-- a number stands once in a rising list
abbrev pub put : ℕ → List ℕ → List ℕ
put c [] = c ∷ []
put c (n ∷ ns) = if nat_lt c n then c ∷ n ∷ ns else n ∷ put c ns

-- a connection holds a slot until a Release finds it closed
abbrev pub holds_slot : Slate → Bool
holds_slot s = is_connection s.phase && not s.freed

module _ (answers : Serving) (settings : Settings) where
  -- what a client is sent for an event e that it hears, by the rule at its slate
  abbrev pub gain : ℕ → List Event → Event → List Output
  gain c q e = (rule answers e (slate answers settings c q)).1

  -- the client of e begins with it, by its first offer or datagram before every shutdown: its number was unused, and is used now
  unfoldable pub is_new : List Event → Event → Bool
  is_new q e = is_unused (slate answers settings e.client q).phase && not (is_unused (slate answers settings e.client (q ++ e ∷ [])).phase)

  -- how many of the members hold a slot, which are the connections that no release found closed
  unfoldable pub taken : List Event → List ℕ → ℕ
  taken q ms = length (filter (λ c. holds_slot (slate answers settings c q)) ms)

  unfoldable pub has_room : List Event → List ℕ → Bool
  has_room q ms = nat_lt (taken q ms) (conf settings q).stream.max_concurrent_connections

  -- a client that begins joins the members ms: by a datagram as an exchange, which holds no slot, and by an offer as a connection,
  -- unless every slot is taken
  abbrev pub joins : List Event → List ℕ → Event → Bool
  joins q ms e = is_new q e && (not (holds_slot (slate answers settings e.client (q ++ e ∷ []))) || has_room q ms)

  abbrev pub joined : List Event → List ℕ → Event → List ℕ
  joined q ms e = if joins q ms e then put e.client ms else ms

  abbrev pub members_after : List Event → List ℕ → List Event → List ℕ
  members_after q ms [] = ms
  members_after q ms (e ∷ es) = members_after (q ++ e ∷ []) (joined q ms e) es

  -- the exchanges and connections of es, by rising number
  unfoldable pub members : List Event → List ℕ
  members es = members_after [] [] es

  -- those that hear e, which they may begin with
  abbrev pub heard : List Event → Event → List ℕ
  heard q e = filter (λ c. concerns c e) (members (q ++ e ∷ []))

  -- a client that begins with e and doesn't join is turned away
  abbrev pub is_turned_away : List Event → Event → Bool
  is_turned_away q e = is_new q e && not (joins q (members q) e)

  abbrev pub turned_away : List Event → Event → List Output
  turned_away q e = if is_turned_away q e then TurnedAway e.client (conf settings q).stream.accept_connections_at_max ∷ [] else []

  -- what is sent for e: the gains of those that hear it, by rising number, and that its client is turned away
  abbrev pub gained : List Event → Event → List Output
  gained q e = flat_map (λ c. gain c q e) (heard q e) ++ turned_away q e

  abbrev pub out_after : List Event → List Event → List Output
  out_after q [] = []
  out_after q (e ∷ es) = gained q e ++ out_after (q ++ e ∷ []) es

  unfoldable pub out : List Event → List Output
  out es = out_after [] es
