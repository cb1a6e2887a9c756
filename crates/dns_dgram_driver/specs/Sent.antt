-- Which datagrams are sent for the events that a driver of datagrams records. Lists of events go from the oldest to the newest; an
-- event e comes after the events q.
use Rattle.std.specs.Prelude.{◌≡◌, ℕ, ◌+◌, List, [], ◌∷◌, ◌++◌, Bool, true, false, ◌&&◌, ◌⊎◌, nat_eq, nat_lt, None}
use Rattle.std.specs.List.{flat_map}
use Rattle.dns_events.specs.declared.look.Look.{Look}
use Rattle.dns_io.specs.declared.sock.Packet.{Packet}
use Rattle.dns_events.specs.declared.event.Event.{Event}
use Rattle.dns_events.specs.declared.event.EventKind.{EventKind}
use Rattle.dns_events.specs.declared.event.EventKind.TheVariants.{Fault}
use Rattle.dns_events.specs.declared.event.Output.{Output}
use Rattle.dns_events.specs.declared.event.Output.TheVariants.{Datagram}
use Rattle.dns_session.specs.Serving.{Serving}
use Rattle.dns_events.specs.declared.settings.Settings.{Settings}
use Rattle.dns_recorder.specs.Sent.{conf, slate}
use Rattle.dns_recorder.specs.Out.{gained}

abbrev pub is_fault : EventKind → Bool
is_fault Fault = true
is_fault _ = false

-- the list begins with a Fault of the client
abbrev pub fails_next : ℕ → List Event → Bool
fails_next client [] = false
fails_next client (e ∷ es) = is_fault e.kind && nat_eq e.client client

-- the list begins with a Fault before this moment
abbrev pub fails_before : ℕ → List Event → Bool
fails_before moment [] = false
fails_before moment (e ∷ es) = is_fault e.kind && nat_lt e.at moment

abbrev pub nothing_if : {X : Type 0} → Bool → List X → List X
nothing_if true xs = []
nothing_if false xs = xs

abbrev pub count_if : Bool → ℕ
count_if true = 1
count_if false = 0

-- the first list is the second without some of its elements
abbrev pub IsPart : {X : Type 0} → List X → List X → Type 0
IsPart xs [] = xs ≡ []
IsPart {X} xs (y ∷ ys) = IsPart xs ys ⊎ ((rest : List X) × (xs ≡ y ∷ rest) × IsPart rest ys)

-- settings with the configurations that a look shows. What else stands in settings changes nothing of what is sent for events
abbrev pub settings_shown : Look → Settings
settings_shown look = record { strict = true; edns = true; cookies = None; denied = []; dgram = look.dgram; stream = look.stream }

module _ (answers : Serving) (settings : Settings) where
  -- a datagram that an exchange is sent goes to the exchange's address
  abbrev pub addressed : List Event → Output → List Packet
  addressed es (Datagram client octets) = record { octets = octets; addr = (slate answers settings client es).addr } ∷ []
  addressed es _ = []

  abbrev pub all_addressed : List Event → List Output → List Packet
  all_addressed es outs = flat_map (addressed es) outs

  -- what is sent for e
  abbrev pub posted : List Event → Event → List Packet
  posted q e = all_addressed (q ++ e ∷ []) (gained answers settings q e)

  abbrev pub delivered_after : List Event → List Event → List Output
  delivered_after q [] = []
  delivered_after q (e ∷ es) = nothing_if (fails_next e.client es) (gained answers settings q e) ++ delivered_after (q ++ e ∷ []) es

  -- what is sent for some events, except for those that a Fault of their exchange follows
  unfoldable pub delivered : List Event → List Output
  delivered es = delivered_after [] es

  -- what is sent for some events and to whom, except for those that a Fault of their exchange follows
  abbrev pub packets_delivered : List Event → List Packet
  packets_delivered es = all_addressed es (delivered es)

  abbrev pub early_faults_after : List Event → List Event → ℕ
  early_faults_after q [] = 0
  early_faults_after q (e ∷ es) = count_if (fails_before (e.at + (conf settings q).dgram.write_timeout) es)
      + early_faults_after (q ++ e ∷ []) es

  -- how many Faults come before the write timeout that is in force has passed since the event before them
  unfoldable pub early_faults : List Event → ℕ
  early_faults es = early_faults_after [] es
