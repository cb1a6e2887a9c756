-- What was received and polled, with one event more of a driver of datagrams.
use Rattle.std.proofs.Common.{◌≡◌, ℕ, ◌+◌, List, [], ◌∷◌, ◌++◌, Bool, false, refl, append_assoc, append-nil, arith, add-one}
use Rattle.dns_io.specs.declared.sock.Packet.{Packet}
use Rattle.dns_events.specs.declared.event.Event.{Event}
use Rattle.dns_session.specs.Serving.{Serving}
use Rattle.dns_events.specs.declared.settings.Settings.{Settings}
use Rattle.dns_dgram_driver.specs.Events.{packet_in, packets_in, cut_packet, cut_packets, number_in, numbers_in, numbers_below, turn_count, turns_in}
use Rattle.dns_dgram_driver.specs.Polled.{MayFollow, waits_with, waits_after, waits, TurnsAfter, TurnsBetween}

pub packets_in_more : (q : List Event) (e : Event) → packets_in (q ++ e ∷ []) ≡ packets_in q ++ packet_in e.kind
packets_in_more [] e = append-nil (packet_in e.kind)
packets_in_more (x ∷ q) e = rw (packets_in_more q e) (simp append_assoc)

pub numbers_in_more : (q : List Event) (e : Event) → numbers_in (q ++ e ∷ []) ≡ numbers_in q ++ number_in e.client e.kind
numbers_in_more [] e = append-nil (number_in e.client e.kind)
numbers_in_more (x ∷ q) e = rw (numbers_in_more q e) (simp append_assoc)

pub turns_in_more : (q : List Event) (e : Event) → turns_in (q ++ e ∷ []) ≡ turns_in q + turn_count e.kind
turns_in_more [] e = omega arith
turns_in_more (x ∷ q) e = let h = turns_in_more q e in omega arith

pub cut_packets_more : (ls : List Packet) (l : Packet) → cut_packets (ls ++ l ∷ []) ≡ cut_packets ls ++ cut_packet l ∷ []
cut_packets_more [] l = refl
cut_packets_more (x ∷ ls) l = rw (cut_packets_more ls l) refl

pub numbers_below_more : (n : ℕ) → numbers_below (n + 1) ≡ numbers_below n ++ n ∷ []
numbers_below_more n = rw add-one refl

module _ (answers : Serving) (settings : Settings) (c : ℕ) where
  waits_after_more : (p : List Event) (w : Bool) (q : List Event) (e : Event) → waits_after answers settings c p w (q ++ e ∷ []) ≡ waits_with answers settings c (p ++ q) (waits_after answers settings c p w q) e
  waits_after_more p w [] e = rw (append-nil p) refl
  waits_after_more p w (x ∷ q) e = rw (waits_after_more (p ++ x ∷ []) (waits_with answers settings c p w x) q e, append_assoc p (x ∷ []) q) refl

  pub waits_more : (q : List Event) (e : Event) → waits answers settings c (q ++ e ∷ []) ≡ waits_with answers settings c q (waits answers settings c q) e
  unfolding waits
  waits_more q e = waits_after_more [] false q e

  turns_after_more : (p : List Event) (w : Bool) (q : List Event) (e : Event) → TurnsAfter answers settings c p w q → MayFollow e.kind (waits_after answers settings c p w q) → TurnsAfter answers settings c p w (q ++ e ∷ [])
  turns_after_more p w [] e r h = (h, tt)
  turns_after_more p w (x ∷ q) e r h = (r.0, turns_after_more (p ++ x ∷ []) (waits_with answers settings c p w x) q e r.1 h)

  pub turns_more : (q : List Event) (e : Event) → TurnsBetween answers settings c q → MayFollow e.kind (waits answers settings c q) → TurnsBetween answers settings c (q ++ e ∷ [])
  unfolding waits TurnsBetween
  turns_more q e r h = turns_after_more [] false q e r h
