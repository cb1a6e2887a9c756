-- What is kept of an exchange that begins, or that is polled.
use Rattle.std.proofs.Common.{◌≡◌, ℕ, List, [], ◌∷◌, ◌++◌, Bool, true, false, refl, ap, sym, ◌∙◌, subst, Option, Some, None}
use Rattle.std.specs.Prelude.{if◌then◌else◌, not, is_some}
use Rattle.dns_name.specs.declared.address.SocketAddr.{SocketAddr}
use Rattle.dns_events.specs.declared.look.Look.{Look}
use Rattle.dns_io.specs.declared.sock.Packet.{Packet}
use Rattle.dns_service.specs.Answer.{Answer}
use Rattle.dns_events.specs.declared.event.Event.{Event}
use Rattle.dns_events.specs.declared.event.EventKind.TheVariants.{Turn}
use Rattle.dns_service.specs.declared.polled.PolledRequest.{PolledRequest}
use Rattle.dns_session.specs.Serving.{Serving}
use Rattle.dns_session.specs.Slate.{Conf, Slate, Phase, Unused, Exchange, IsUnused}
use Rattle.dns_session.specs.Datagrams.{cut_datagram, datagram, datagrams_to}
use Rattle.dns_session.specs.Rule.{rule}
use Rattle.dns_session.specs.Spent.{is_spent, is_spent_in}
use Rattle.dns_session.specs.Goings.{BeginsAs, SpentWith, TurnsAs, unless_done}
use Rattle.dns_session.specs.Stands.{IsExchange}
use Rattle.dns_session.specs.declared.kept.KeptRequest.{KeptRequest}
use Rattle.dns_dgram_driver.specs.Polled.{is_finished}
use Rattle.dns_dgram_driver.specs.Steps.{last_octets, packet_to, kept_under, IsKeptOf, KeepsExchange, TurnedExchange, TurnedOne, Begun}
use Rattle.dns_dgram_driver.specs.declared.running.KeptExchange.{KeptExchange}
use Rattle.dns_dgram_driver.proofs.Slates.{exchange_stays}

last_is : (number : ℕ) (octets : Option (List ℕ)) → last_octets (datagrams_to number octets) ≡ octets
last_is number None = refl
last_is number (Some o) = refl

spent_is : (s : Slate) → s.phase ≡ Exchange → is_spent s ≡ is_finished s
spent_is s h = subst (λ (p : Phase). is_spent_in p s ≡ is_finished s) (sym h) refl

unused_not : (s : Slate) → IsUnused s → s.phase ≡ Exchange → ⊥
unused_not s u h = let g : s.phase ≡ Unused = ap (λ (t : Slate). t.phase) u in cc

module _ {W R F : Type 0} (answer : PolledRequest F R → ℕ → Answer) (answers : Serving) where
  -- a Turn of one that is kept
  pub turned_one : (old : KeptExchange W R F) (q : KeptRequest F R) (octets : Option (List ℕ)) (packet : Option Packet) (done : Bool)
      → TurnsAs answer answers (Some old.request) (unless_done done q) octets → SpentWith answer answers done (unless_done done q) → packet ≡ packet_to octets old.addr
      → TurnedOne answer answers old packet done (record old { request = q })
  turned_one old q octets packet done turns ends l =
      let goes = λ (e : Event) (s : Slate) (k : e.kind ≡ Turn 0) (i : IsKeptOf answer answers old s). turns old.number e k s i.is_exchange in
      let stays = λ (e : Event) (s : Slate) (k : e.kind ≡ Turn 0) (i : IsKeptOf answer answers old s). exchange_stays answers e s (rw k refl) i.phase_is in
      let finished : (e : Event) (s : Slate) → e.kind ≡ Turn 0 → IsKeptOf answer answers old s → done ≡ is_finished (rule answers e s).0 =
      λ e s k i. ends old.number (rule answers e s).0 (goes e s k i).1 ∙ spent_is (rule answers e s).0 (stays e s k i).0 in
      record {
        packet_is = λ e s k i. l ∙ ap (λ (x : Option (List ℕ)). packet_to x old.addr) (sym (last_is old.number octets) ∙ ap last_octets (goes e s k i).0) ∙ ap (packet_to (last_octets (rule answers e s).1)) (i.addr_is ∙ sym (stays e s k i).1);
        done_is = finished;
        left = λ e s k i n. record { is_exchange = rw n at (goes e s k i).1; addr_is = i.addr_is ∙ sym (stays e s k i).1; phase_is = (stays e s k i).0; unfinished = sym (finished e s k i) ∙ n };
      }

  left_case : (done : Bool) (x : KeptExchange W R F) (s : Slate) → done ≡ is_finished s → (done ≡ false → IsKeptOf answer answers x s) → KeepsExchange answer answers (if done then [] else x ∷ []) s
  left_case true x s d l = sym d
  left_case false x s d l = l refl

  -- nothing stands after it
  keeps_first : (behind : List (KeptExchange W R F)) (x : KeptExchange W R F) (s : Slate) → KeepsExchange answer answers (x ∷ behind) s → (behind ≡ []) × IsKeptOf answer answers x s
  keeps_first [] x s h = (refl, h)
  keeps_first (y ∷ ys) x s h = absurd h

  keeps_behind : (behind xs : List (KeptExchange W R F)) (s : Slate) → behind ≡ [] → KeepsExchange answer answers xs s → KeepsExchange answer answers (behind ++ xs) s
  keeps_behind behind xs s b h = rw b h

  -- it is kept no more once it is finished
  pub turned_behind : (behind : List (KeptExchange W R F)) (old : KeptExchange W R F) (packet : Option Packet) (done : Bool) (new : KeptExchange W R F) → TurnedOne answer answers old packet done new
      → TurnedExchange answer answers (old ∷ behind) packet (behind ++ (if done then [] else new ∷ []))
  turned_behind behind old packet done new t = record {
    leads = λ e s turn h.
        let k = keeps_first behind old s h in (
          t.packet_is e s turn k.1,
          keeps_behind behind (if done then [] else new ∷ []) (rule answers e s).0 k.0 (left_case done new (rule answers e s).0 (t.done_is e s turn k.1) (t.left e s turn k.1)),
        );
  }

  -- ---- the datagram

  unkept : (old : List (KeptExchange W R F)) (s : Slate) → IsUnused s → KeepsExchange answer answers old s → old ≡ []
  unkept [] s u h = refl
  unkept (x ∷ []) s u h = absurd (unused_not s u h.phase_is)
  unkept (x ∷ y ∷ xs) s u h = absurd h

  begun_case : (q : Option (KeptRequest F R)) (number : ℕ) (addr : SocketAddr) (old new : List (KeptExchange W R F)) (s : Slate) → not (is_some q) ≡ is_finished s → new ≡ old ++ kept_under number addr q → old ≡ []
      → IsExchange answer answers number q s → addr ≡ s.addr → s.phase ≡ Exchange → KeepsExchange answer answers new s
  begun_case None number addr old new s d n o h a p = rw (n, o) (sym d)
  begun_case (Some q) number addr old new s d n o h a p = rw (n, o) (record { is_exchange = h; addr_is = a; phase_is = p; unfinished = sym d })

  pub begun_one : (heard : Look) (e : Event) (addr : SocketAddr) (octets : List ℕ) (old new : List (KeptExchange W R F)) (q : Option (KeptRequest F R)) (o : Option (List ℕ)) (packet : Option Packet)
      → BeginsAs answer answers addr e.at e.secs heard.dgram (cut_datagram octets) q o → SpentWith answer answers (not (is_some q)) q → new ≡ old ++ kept_under e.client addr q → packet ≡ packet_to o addr
      → Begun answer answers heard e addr octets old packet new
  begun_one heard e addr octets old new q o packet begun ends kept l = record {
    leads = λ s u h i.
        let b = begun e.client s u (ap (λ (c : Conf). c.dgram) h) in
        let t = datagram e.client addr e.at e.secs octets s in (
          l ∙ ap (λ (x : Option (List ℕ)). packet_to x addr) (sym (last_is e.client o) ∙ ap last_octets b.0),
          begun_case q e.client addr old new t.0 (ends e.client t.0 b.1 ∙ spent_is t.0 refl) kept (unkept old s u i) b.1 refl refl,
        );
  }
