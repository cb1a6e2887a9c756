-- THE LAW of datagrams that were served, by what was noted and what the socket's calls said.
use Rattle.std.specs.Prelude.{◌≡◌, ℕ, List, ◌++◌}
use Rattle.dns_events.specs.declared.look.Look.{Look}
use Rattle.dns_events.specs.declared.event.Event.{Event}
use Rattle.dns_io.specs.declared.sock.Packet.{Packet}
use Rattle.dns_session.specs.Serving.{Serving}
use Rattle.dns_recorder.specs.Out.{out}
use Rattle.dns_dgram_driver.specs.DatagramsServed.{World}
use Rattle.dns_dgram_driver.specs.Events.{packets_in, cut_packets, numbers_in, numbers_below}
use Rattle.dns_dgram_driver.specs.Sent.{settings_shown, all_addressed, IsPart}

-- Each datagram that the receives gave was heard, up to some at the end if memory ran out: by its first 1,024 octets, as an
-- exchange of its own, under the next number. What was sent are datagrams that the rules send for these events, each to the address
-- of its exchange; those are left out whose send failed or came too late.
pub record DatagramsByTheRules (answers : Serving) (start now : World) : Type 0 where
  pub first : Look
  pub events : List Event
  pub came : List Packet
  pub unheard : List Packet
  pub number : ℕ
  pub packets : List Packet
  pub noted : now.noted ≡ start.noted ++ events
  pub taken : now.sock_traffic.received ≡ start.sock_traffic.received ++ came
  pub heard : cut_packets came ≡ packets_in events ++ unheard
  pub numbered : numbers_in events ≡ numbers_below number
  pub handed : now.sock_traffic.sent ≡ start.sock_traffic.sent ++ packets
  pub part : IsPart packets (all_addressed answers (settings_shown first) events (out answers (settings_shown first) events))
