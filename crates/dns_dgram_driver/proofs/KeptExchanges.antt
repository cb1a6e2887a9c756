-- What is kept stands for the slates, with one event more of a driver of datagrams.
use Rattle.std.proofs.Common.{◌≡◌, ◌≢◌, ℕ, ◌+◌, ◌≤◌, List, [], ◌∷◌, ◌++◌, Bool, true, false, refl, ap, sym, ◌∙◌, subst, append_assoc, append-nil, arith, Option, inl, inr}
use Rattle.std.specs.Prelude.{◌==◌, ◌||◌, ◌&&◌, not, if◌then◌else◌}
use Rattle.std.proofs.lemmas.Bool.Decides.{eqb_tells}
use Rattle.dns_name.specs.declared.address.SocketAddr.{SocketAddr}
use Rattle.dns_events.specs.declared.look.Look.{Look}
use Rattle.dns_io.specs.declared.sock.Packet.{Packet}
use Rattle.dns_service.specs.Answer.{Answer}
use Rattle.dns_events.specs.declared.event.Event.{Event}
use Rattle.dns_events.specs.declared.event.EventKind.{EventKind}
use Rattle.dns_events.specs.declared.event.EventKind.TheVariants.{Datagram, Turn, Fault, Reconfigure, Shutdown}
use Rattle.dns_events.specs.declared.event.Output.{Output}
use Rattle.dns_events.specs.declared.event.Output.TheVariants as output
use Rattle.dns_service.specs.declared.polled.PolledRequest.{PolledRequest}
use Rattle.dns_session.specs.Serving.{Serving}
use Rattle.dns_session.specs.Slate.{Slate, Conf, Effect, Phase, Unused, Exchange, Closed, IsUnused, conf_of, conf_rule, with_conf}
use Rattle.dns_session.specs.Datagrams.{datagram}
use Rattle.dns_session.specs.News.{news, wide}
use Rattle.dns_session.specs.Rule.{rule, in_phase}
use Rattle.dns_events.specs.declared.settings.Settings.{Settings}
use Rattle.dns_recorder.specs.Settings.{opening}
use Rattle.dns_recorder.specs.Own.{is_wide}
use Rattle.dns_recorder.specs.Sent.{conf, conf_after, slate}
use Rattle.dns_recorder.specs.Out.{gained}
use Rattle.dns_recorder.specs.Notes.{AllWide}
use Rattle.dns_recorder.specs.Woven.{kinds, news_kinds}
use Rattle.dns_dgram_driver.specs.Events.{IsDatagramKind, AllDatagramKinds}
use Rattle.dns_dgram_driver.specs.Sent.{all_addressed, posted}
use Rattle.dns_dgram_driver.specs.Steps.{hears, last_octets, packet_to, one_or_none, KeepsExchange, ExchangeLeads, TurnedExchange, Begun, kept_at}
use Rattle.dns_dgram_driver.specs.Rounds.{ServesExchanges}
use Rattle.dns_dgram_driver.specs.declared.running.KeptExchange.{KeptExchange}
use Rattle.dns_dgram_driver.specs.declared.running.Running.{Running}
use Rattle.dns_dgram_driver.proofs.Slates.{IsPost, IsPlainIn, plain_slate}
use Rattle.dns_dgram_driver.proofs.Members.{kinds_more, conf_more, took, slate_own, slate_wide, slate_other, gained_is, gained_posts}

-- ---- the datagram that an event adds

module _ (answers : Serving) (settings : Settings) where
  post_packet : (q : List Event) (c : ℕ) (os : List Output) (addr : SocketAddr) → IsPost c os → (slate answers settings c q).addr ≡ addr → all_addressed answers settings q os ≡ one_or_none (packet_to (last_octets os) addr)
  post_packet q c [] addr p h = refl
  post_packet q c (output.Datagram d octets ∷ []) addr p h = rw (p, h) refl
  post_packet q c (output.Datagram d octets ∷ x ∷ os) addr p h = absurd p
  post_packet q c (output.Frame d octets ∷ os) addr p h = absurd p
  post_packet q c (output.Closed d why ∷ os) addr p h = absurd p
  post_packet q c (output.TurnedAway d accepted ∷ os) addr p h = absurd p

  -- it goes to the address that the slate has after it
  pub posted_is : (q : List Event) (e : Event) → AllDatagramKinds q → IsDatagramKind e.kind
      → posted answers settings q e ≡ one_or_none (packet_to (last_octets (rule answers e (slate answers settings e.client q)).1) (rule answers e (slate answers settings e.client q)).0.addr)
  posted_is q e d k =
      post_packet (q ++ e ∷ []) e.client (gained answers settings q e) (rule answers e (slate answers settings e.client q)).0.addr (gained_posts answers settings q e d k)
      (ap (λ (s : Slate). s.addr) (slate_own answers settings e.client q e refl))
      ∙ ap (λ (os : List Output). one_or_none (packet_to (last_octets os) (rule answers e (slate answers settings e.client q)).0.addr)) (gained_is answers settings q e d k)

-- ---- events that all clients hear, and the news of a look

pub wide_plain : (kind : EventKind) → is_wide kind ≡ true → IsDatagramKind kind
wide_plain (Datagram addr o) h = tt
wide_plain Fault h = tt
wide_plain (Reconfigure dgram stream) h = tt
wide_plain Shutdown h = tt
wide_plain _ h = cc

pub all_wide_plain : (es : List Event) → AllWide (kinds es) → AllDatagramKinds es
all_wide_plain [] w = tt
all_wide_plain (e ∷ es) w = (wide_plain e.kind w.0, all_wide_plain es w.1)

conf_kinds : (es fs : List Event) (k : Conf) → kinds es ≡ kinds fs → conf_after k es ≡ conf_after k fs
conf_kinds [] [] k h = refl
conf_kinds [] (f ∷ fs) k h = cc
conf_kinds (e ∷ es) [] k h = cc
conf_kinds (e ∷ es) (f ∷ fs) k h =
    let same : e.kind ≡ f.kind = cc in
    let t : kinds es ≡ kinds fs = cc in
    rw same (conf_kinds es fs (conf_rule f.kind k) t)

both_wide : (look : Look) (a b : Bool) → AllWide (kinds ((if a then [] else wide (Reconfigure look.dgram look.stream) ∷ []) ++ (if b then wide Shutdown ∷ [] else [])))
both_wide look true true = (refl, tt)
both_wide look true false = tt
both_wide look false true = (refl, (refl, tt))
both_wide look false false = (refl, tt)

pub news_wide : (before look : Look) (es : List Event) → kinds es ≡ news_kinds before look → AllWide (kinds es)
news_wide before look es h = rw h (both_wide look (look.version == before.version) (look.closed && not before.closed))

news_conf : (heard look : Look) (same over now : Bool) →
    conf_after (record { dgram = heard.dgram; stream = heard.stream; over = over }) ((if same then [] else wide (Reconfigure look.dgram look.stream) ∷ []) ++ (if now && not over then wide Shutdown ∷ [] else []))
    ≡ conf_of (if over || same then record heard { version = look.version; closed = over || now } else record look { closed = over || now })
news_conf heard look true true true = refl
news_conf heard look true true false = refl
news_conf heard look true false true = refl
news_conf heard look true false false = refl
news_conf heard look false true true = refl
news_conf heard look false true false = refl
news_conf heard look false false true = refl
news_conf heard look false false false = refl

module _ (answers : Serving) (settings : Settings) where
  wide_is : (c : ℕ) (q : List Event) (e : Event) → AllDatagramKinds q → IsDatagramKind e.kind → is_wide e.kind ≡ true → slate answers settings c (q ++ e ∷ []) ≡ with_conf (conf_rule e.kind (slate answers settings c q).conf) (slate answers settings c q)
  wide_is c q e d k w = slate_wide answers settings c q e w ∙ ap (λ (t : Effect). t.0) ((took answers settings c q e d k (λ h. absurd cc)).wide w)

  narrow_heard : (q : List Event) (e : Event) (k : Conf) → conf_rule e.kind (conf settings q) ≡ conf settings q → conf settings q ≡ k → conf settings (q ++ e ∷ []) ≡ k
  narrow_heard q e k n h = conf_more settings q e ∙ n ∙ h

  otherwise : (b : Bool) (x y : Effect) → b ≡ false → (if b then x else y) ≡ y
  otherwise true x y h = cc
  otherwise false x y h = refl

  unused_in : (c : ℕ) (p : Phase) (s : Slate) → p ≡ Unused → IsPlainIn c p s → IsUnused s
  unused_in c Unused s h i = i
  unused_in c Exchange s h i = cc
  unused_in c _ s h i = absurd i

  unused_slate : (c : ℕ) (q : List Event) → AllDatagramKinds q → (slate answers settings c q).phase ≡ Unused → IsUnused (slate answers settings c q)
  unused_slate c q d h = unused_in c (slate answers settings c q).phase (slate answers settings c q) h (plain_slate answers settings c q d).plain

  -- a Datagram begins an exchange
  rule_begins : (e : Event) (addr : SocketAddr) (octets : List ℕ) (s : Slate) → s.phase ≡ Unused → e.kind ≡ Datagram addr octets → s.conf.over ≡ false → rule answers e s ≡ datagram e.client addr e.at e.secs octets s
  rule_begins e addr octets s h k o =
      subst (λ (p : Phase). in_phase answers e p (with_conf (conf_rule e.kind s.conf) s) ≡ datagram e.client addr e.at e.secs octets s) (sym h)
      (rw k (otherwise s.conf.over (s, []) (datagram e.client addr e.at e.secs octets s) o))

  -- a Turn begins nothing
  unused_turn : (e : Event) (s : Slate) → s.phase ≡ Unused → e.kind ≡ Turn 0 → (rule answers e s).0.phase ≡ Unused
  unused_turn e s h k = subst (λ (p : Phase). (in_phase answers e p (with_conf (conf_rule e.kind s.conf) s)).0.phase ≡ Unused) (sym h) (rw k h)

abbrev pub TypeOf : {X : Type 0} → X → Type 0
TypeOf {X} x = X

-- ---- what is kept, under other configurations

module _ {W R F : Type 0} (answer : PolledRequest F R → ℕ → Answer) (answers : Serving) where
  keeps_conf : (x : List (KeptExchange W R F)) (k : Conf) (s : Slate) → KeepsExchange answer answers x s → KeepsExchange answer answers x (with_conf k s)
  keeps_conf [] k s h = h
  keeps_conf (x ∷ y ∷ xs) k s h = absurd h
  keeps_conf (x ∷ []) k s h = record {
    is_exchange = let i = h.is_exchange in record { client = i.client; freed = i.freed; phase = i.phase; requests = i.requests; queue = i.queue };
    addr_is = h.addr_is;
    phase_is = h.phase_is;
    unfinished = h.unfinished;
  }

  -- ---- one event more

  module _ (settings : Settings) where
    -- what is kept of the exchanges, by the slates alone
    pub record ServesAt (q : List Event) (exchanges : List (KeptExchange W R F)) (next : ℕ) (k : Conf) : Type 0 where
      pub each : (c : ℕ) → KeepsExchange answer answers (kept_at c exchanges) (slate answers settings c q)
      pub unused : (c : ℕ) → next ≤ c → (slate answers settings c q).phase ≡ Unused
      pub heard : conf settings q ≡ k

    wide_more : (q : List Event) (e : Event) (m : List (KeptExchange W R F)) (n : ℕ) (k : Conf) → AllDatagramKinds q → IsDatagramKind e.kind → is_wide e.kind ≡ true → ServesAt q m n k → ServesAt (q ++ e ∷ []) m n (conf_rule e.kind k)
    wide_more q e m n k d ok w s = record {
      each = λ c. rw (wide_is answers settings c q e d ok w) (keeps_conf (kept_at c m) (conf_rule e.kind (slate answers settings c q).conf) (slate answers settings c q) (s.each c));
      unused = λ c l. rw (wide_is answers settings c q e d ok w) (s.unused c l);
      heard = conf_more settings q e ∙ ap (conf_rule e.kind) s.heard;
    }

    wide_all : (es q : List Event) (m : List (KeptExchange W R F)) (n : ℕ) (k : Conf) → AllDatagramKinds q → AllWide (kinds es) → ServesAt q m n k → ServesAt (q ++ es) m n (conf_after k es)
    wide_all [] q m n k d w s = rw (append-nil q) s
    wide_all (e ∷ es) q m n k d w s =
        subst (λ (x : List Event). ServesAt x m n (conf_after (conf_rule e.kind k) es)) (append_assoc q (e ∷ []) es)
        (wide_all es (q ++ e ∷ []) m n (conf_rule e.kind k) (kinds_more q e d (wide_plain e.kind w.0)) w.1 (wide_more q e m n k d (wide_plain e.kind w.0) w.0 s))

    -- they change the configurations that were heard, and nothing of what is kept
    pub serves_news : (q : List Event) (s : Running W R F) (look : Look) (es : List Event) → AllDatagramKinds q → kinds es ≡ news_kinds s.heard look → ServesExchanges answer answers settings q s → ServesExchanges answer answers settings (q ++ es) (record s { heard = hears s.heard look })
    serves_news q s look es d h serves =
        let ns = news s.heard.version s.heard.closed look in
        let a = wide_all es q s.exchanges.items s.next (conf_of s.heard) d (news_wide s.heard look es h) (record { each = serves.each; unused = serves.unused; heard = serves.heard }) in
        record {
          each = a.each;
          unused = a.unused;
          heard = a.heard ∙ conf_kinds es ns (conf_of s.heard) h ∙ news_conf s.heard look (look.version == s.heard.version) s.heard.closed look.closed;
        }

    -- ---- an event of a client

    -- a Turn
    pub serves_turn : (q : List Event) (s : Running W R F) (e : Event) (packet : Option Packet) (m : TypeOf s.exchanges) → AllDatagramKinds q → e.kind ≡ Turn 0
        → TurnedExchange answer answers (kept_at e.client s.exchanges.items) packet (kept_at e.client m.items) → ((c : ℕ) → c ≢ e.client → kept_at c m.items ≡ kept_at c s.exchanges.items)
        → ServesExchanges answer answers settings q s → ServesExchanges answer answers settings (q ++ e ∷ []) (record s { exchanges = m })
    serves_turn q s e packet m d h t others serves = record {
      each = λ c. (elim (eqb_tells e.client c) [
        | inl x ↦ subst (λ (n : ℕ). KeepsExchange answer answers (kept_at n m.items) (slate answers settings n (q ++ e ∷ []))) x.1
            (rw (slate_own answers settings e.client q e refl) (t.leads e (slate answers settings e.client q) h (serves.each e.client)).1)
        | inr x ↦ rw (slate_other answers settings c q e (rw h refl) x.1, others c (λ (y : c ≡ e.client). x.1 (sym y))) (serves.each c)
      ]);
      unused = λ c l. (elim (eqb_tells e.client c) [
        | inl x ↦ rw (slate_own answers settings c q e x.1) (unused_turn answers settings e (slate answers settings c q) (serves.unused c l) h)
        | inr x ↦ rw (slate_other answers settings c q e (rw h refl) x.1) (serves.unused c l)
      ]);
      heard = narrow_heard answers settings q e (conf_of s.heard) (rw h refl) serves.heard;
    }

    pub posted_turn : (q : List Event) (s : Running W R F) (e : Event) (packet : Option Packet) (new : List (KeptExchange W R F)) → AllDatagramKinds q → e.kind ≡ Turn 0
        → TurnedExchange answer answers (kept_at e.client s.exchanges.items) packet new → ServesExchanges answer answers settings q s → posted answers settings q e ≡ one_or_none packet
    posted_turn q s e packet new d h t serves =
        posted_is answers settings q e d (rw h refl) ∙ ap (λ (l : Option Packet). one_or_none l) (sym (t.leads e (slate answers settings e.client q) h (serves.each e.client)).0)

    -- a Datagram under the next number
    begun_at : (q : List Event) (s : Running W R F) (e : Event) (addr : SocketAddr) (octets : List ℕ) (packet : Option Packet) (new : List (KeptExchange W R F)) → AllDatagramKinds q → e.kind ≡ Datagram addr octets → e.client ≡ s.next
        → s.heard.closed ≡ false → Begun answer answers s.heard e addr octets (kept_at e.client s.exchanges.items) packet new → ServesExchanges answer answers settings q s
        → ExchangeLeads answer answers (kept_at e.client s.exchanges.items) packet new (slate answers settings e.client q) (rule answers e (slate answers settings e.client q))
    begun_at q s e addr octets packet new d h n running b serves =
        let z = slate answers settings e.client q in
        let u : z.phase ≡ Unused = serves.unused e.client (rw n (omega arith)) in
        let same : z.conf ≡ conf_of s.heard = (plain_slate answers settings e.client q d).conf ∙ serves.heard in
        let over : z.conf.over ≡ false = ap (λ (k : Conf). k.over) same ∙ running in
        rw (rule_begins answers settings e addr octets z u h over) (b.leads z (unused_slate answers settings e.client q d u) same)

    pub serves_datagram : (q : List Event) (s : Running W R F) (e : Event) (addr : SocketAddr) (octets : List ℕ) (packet : Option Packet) (m : TypeOf s.exchanges) → AllDatagramKinds q → e.kind ≡ Datagram addr octets → e.client ≡ s.next
        → s.heard.closed ≡ false → Begun answer answers s.heard e addr octets (kept_at e.client s.exchanges.items) packet (kept_at e.client m.items) → ((c : ℕ) → c ≢ e.client → kept_at c m.items ≡ kept_at c s.exchanges.items)
        → ServesExchanges answer answers settings q s → ServesExchanges answer answers settings (q ++ e ∷ []) (record s { exchanges = m; next = s.next + 1 })
    serves_datagram q s e addr octets packet m d h n running b others serves =
        let l = begun_at q s e addr octets packet (kept_at e.client m.items) d h n running b serves in
        record {
          each = λ c. (elim (eqb_tells e.client c) [
            | inl x ↦ subst (λ (i : ℕ). KeepsExchange answer answers (kept_at i m.items) (slate answers settings i (q ++ e ∷ []))) x.1 (rw (slate_own answers settings e.client q e refl) (l (serves.each e.client)).1)
            | inr x ↦ rw (slate_other answers settings c q e (rw h refl) x.1, others c (λ (y : c ≡ e.client). x.1 (sym y))) (serves.each c)
          ]);
          unused = λ c k. (elim (eqb_tells e.client c) [
            | inl x ↦ absurd (omega (arith, x.1, n, k))
            | inr x ↦ rw (slate_other answers settings c q e (rw h refl) x.1) (serves.unused c (omega arith))
          ]);
          heard = narrow_heard answers settings q e (conf_of s.heard) (rw h refl) serves.heard;
        }

    pub posted_datagram : (q : List Event) (s : Running W R F) (e : Event) (addr : SocketAddr) (octets : List ℕ) (packet : Option Packet) (new : List (KeptExchange W R F)) → AllDatagramKinds q → e.kind ≡ Datagram addr octets → e.client ≡ s.next
        → s.heard.closed ≡ false → Begun answer answers s.heard e addr octets (kept_at e.client s.exchanges.items) packet new → ServesExchanges answer answers settings q s → posted answers settings q e ≡ one_or_none packet
    posted_datagram q s e addr octets packet new d h n running b serves =
        let l = begun_at q s e addr octets packet new d h n running b serves in
        posted_is answers settings q e d (rw h tt) ∙ ap (λ (x : Option Packet). one_or_none x) (sym (l (serves.each e.client)).0)

    -- nothing came yet
    pub serves_none : (s : Running W R F) → ((c : ℕ) → kept_at c s.exchanges.items ≡ []) → opening settings ≡ conf_of s.heard → ServesExchanges answer answers settings [] s
    unfolding slate conf
    serves_none s none h = record { each = λ c. rw (none c) refl; unused = λ c l. refl; heard = h }
