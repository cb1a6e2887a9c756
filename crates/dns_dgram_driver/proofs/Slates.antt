-- The slates of the clients of a driver of datagrams: nothing came yet, or each is an exchange.
use Rattle.std.proofs.Common.{◌≡◌, ℕ, List, [], ◌∷◌, Bool, true, false, cond, refl, ap, sym, ◌∙◌, subst}
use Rattle.std.specs.Prelude.{Option, Some, None, slice_get, if◌then◌else◌, nat_eq, ◌||◌}
use Rattle.std.proofs.lemmas.Bool.{eqb-true}
use Rattle.dns_name.specs.declared.address.SocketAddr.{SocketAddr}
use Rattle.dns_base.specs.Msg.{Msg}
use Rattle.dns_events.specs.declared.event.Event.{Event}
use Rattle.dns_events.specs.declared.event.EventKind.{EventKind}
use Rattle.dns_events.specs.declared.event.EventKind.TheVariants.{Datagram, Turn, Fault, Reconfigure, Shutdown}
use Rattle.dns_events.specs.declared.event.Output.{Output}
use Rattle.dns_events.specs.declared.event.Output.TheVariants as output
use Rattle.dns_session.specs.Serving.{Serving}
use Rattle.dns_session.specs.Slate.{Slate, SlateRequest, Conf, Effect, Phase, Unused, Exchange, fresh, conf_rule, with_conf}
use Rattle.dns_session.specs.Datagrams.{datagram}
use Rattle.dns_session.specs.Turns.{exchange_turn, polled, sent_at_once, sent_for, with_request}
use Rattle.dns_session.specs.Rule.{rule, in_phase, exchange_rule}
use Rattle.dns_events.specs.declared.settings.Settings.{Settings}
use Rattle.dns_recorder.specs.Settings.{opening}
use Rattle.dns_recorder.specs.Own.{is_wide, own, concerns}
use Rattle.dns_recorder.specs.Sent.{conf, conf_after, slate_after, slate}
use Rattle.dns_recorder.specs.Out.{is_unused}
use Rattle.dns_dgram_driver.specs.Events.{IsDatagramKind, AllDatagramKinds}
use Rattle.dns_dgram_driver.specs.Sent.{is_fault}

abbrev pub event_of : ℕ → ℕ → ℕ → EventKind → Event
event_of at secs client kind = record { at = at; secs = secs; client = client; kind = kind }

-- nothing came yet, or it is the client's exchange
abbrev pub IsPlainIn : ℕ → Phase → Slate → Type 0
IsPlainIn c Unused s = s ≡ fresh s.conf
IsPlainIn c Exchange s = s.client ≡ c
IsPlainIn c _ s = ⊥

abbrev pub IsPlain : ℕ → Slate → Type 0
IsPlain c s = IsPlainIn c s.phase s

-- one datagram at most
abbrev pub IsPost : ℕ → List Output → Type 0
IsPost c [] = Unit {0}
IsPost c (output.Datagram d octets ∷ []) = d ≡ c
IsPost c _ = ⊥

-- what an event of a kind does to a client that hears it
pub record Takes (c : ℕ) (kind : EventKind) (s : Slate) (t : Effect) : Type 0 where
  pub plain : IsPlain c t.0
  pub conf : t.0.conf ≡ conf_rule kind s.conf
  pub posts : IsPost c t.1
  pub quiet : is_unused t.0.phase ≡ true → t.1 ≡ []
  pub stays : s.phase ≡ Exchange → (t.0.phase ≡ Exchange) × (t.0.addr ≡ s.addr)
  pub wide : is_wide kind ≡ true → t ≡ (with_conf (conf_rule kind s.conf) s, [])
  pub idle : is_fault kind ≡ true → t ≡ (s, [])

post_if : (c : ℕ) (o : List ℕ) (short qr : Bool) → IsPost c (if short then [] else (if qr then output.Datagram c o ∷ [] else []))
post_if c o true qr = tt
post_if c o false true = refl
post_if c o false false = tt

-- ---- nothing came yet

-- an event that changes nothing
still : (c : ℕ) (kind : EventKind) (s : Slate) → IsPlain c s → conf_rule kind s.conf ≡ s.conf → Takes c kind s (s, [])
still c kind s h k = record { plain = h; conf = sym k; posts = tt; quiet = λ _. refl; stays = λ e. (e, refl); wide = λ _. rw k refl; idle = λ _. refl }

began : (c at secs : ℕ) (addr : SocketAddr) (o : List ℕ) (k : Conf) → Takes c (Datagram addr o) (fresh k) (datagram c addr at secs o (fresh k))
began c at secs addr o k = record {
  plain = refl;
  conf = refl;
  posts = post_if c _ _ _;
  quiet = λ h. cc;
  stays = λ h. cc;
  wide = λ h. cc;
  idle = λ h. cc;
}

begins : (c at secs : ℕ) (addr : SocketAddr) (o : List ℕ) (k : Conf) (over : Bool) → Takes c (Datagram addr o) (fresh k) (if over then (fresh k, []) else datagram c addr at secs o (fresh k))
begins c at secs addr o k true = still c (Datagram addr o) (fresh k) refl refl
begins c at secs addr o k false = began c at secs addr o k

module _ (answers : Serving) where
  unused_takes : (c at secs client : ℕ) (kind : EventKind) (k : Conf) → IsDatagramKind kind → (is_wide kind ≡ false → client ≡ c) → Takes c kind (fresh k) (rule answers (event_of at secs client kind) (fresh k))
  unused_takes c at secs client (Datagram addr o) k d mine = rw (mine refl) (begins c at secs addr o k k.over)
  unused_takes c at secs client (Turn r) k d mine = still c (Turn r) (fresh k) refl refl
  unused_takes c at secs client Fault k d mine = still c Fault (fresh k) refl refl
  unused_takes c at secs client (Reconfigure dgram stream) k d mine =
      record { plain = refl; conf = refl; posts = tt; quiet = λ _. refl; stays = λ h. cc; wide = λ _. refl; idle = λ h. cc }
  unused_takes c at secs client Shutdown k d mine =
      record { plain = refl; conf = refl; posts = tt; quiet = λ _. refl; stays = λ h. cc; wide = λ _. refl; idle = λ h. cc }
  unused_takes c at secs client _ k d mine = absurd d

  -- ---- an exchange

  exchange_plain : (c : ℕ) (p : Phase) (s : Slate) → p ≡ Exchange → s.client ≡ c → IsPlainIn c p s
  exchange_plain c Exchange s e h = h
  exchange_plain c _ s e h = cc

  goes_on : (c : ℕ) (kind : EventKind) (s : Slate) (t : Effect) → s.phase ≡ Exchange → s.client ≡ c → t.0.phase ≡ s.phase → t.0.client ≡ s.client → t.0.addr ≡ s.addr → t.0.conf ≡ conf_rule kind s.conf
      → IsPost c t.1 → (is_wide kind ≡ true → t ≡ (with_conf (conf_rule kind s.conf) s, [])) → (is_fault kind ≡ true → t ≡ (s, [])) → Takes c kind s t
  goes_on c kind s t e mine phase client addr conf posts wide idle = record {
    plain = exchange_plain c t.0.phase t.0 (phase ∙ e) (client ∙ mine);
    conf = conf;
    posts = posts;
    quiet = λ h. let g : is_unused t.0.phase ≡ false = rw (phase, e) refl in cc;
    stays = λ h. (phase ∙ e, addr);
    wide = wide;
    idle = idle;
  }

  sent_posts : (c : ℕ) (x : Option Msg) → IsPost c (sent_at_once c x)
  sent_posts c None = tt
  sent_posts c (Some m) = refl

  turn_done : (c k : ℕ) (s : Slate) (r : SlateRequest) (done : Bool) → s.phase ≡ Exchange → s.client ≡ c
      → Takes c (Turn k) s (if done then (s, []) else (with_request k (polled (answers.answer r.request r.polls) r) s, sent_at_once s.client (sent_for answers r.request (answers.answer r.request r.polls))))
  turn_done c k s r true e mine = goes_on c (Turn k) s (s, []) e mine refl refl refl refl tt (λ _. refl) (λ _. refl)
  turn_done c k s r false e mine =
      goes_on c (Turn k) s (with_request k (polled (answers.answer r.request r.polls) r) s, sent_at_once s.client (sent_for answers r.request (answers.answer r.request r.polls))) e mine refl refl refl refl
      (rw mine (sent_posts c (sent_for answers r.request (answers.answer r.request r.polls)))) (λ h. cc) (λ h. cc)

  turn_takes : (c k : ℕ) (s : Slate) (x : Option SlateRequest) → s.phase ≡ Exchange → s.client ≡ c → Takes c (Turn k) s (exchange_turn answers k x s)
  turn_takes c k s None e mine = goes_on c (Turn k) s (s, []) e mine refl refl refl refl tt (λ _. refl) (λ _. refl)
  turn_takes c k s (Some r) e mine = turn_done c k s r r.done e mine

  exchange_takes : (c : ℕ) (kind : EventKind) (s : Slate) → IsDatagramKind kind → s.phase ≡ Exchange → s.client ≡ c → Takes c kind s (exchange_rule answers kind (with_conf (conf_rule kind s.conf) s))
  exchange_takes c (Datagram addr o) s d e mine = goes_on c (Datagram addr o) s (s, []) e mine refl refl refl refl tt (λ _. refl) (λ _. refl)
  exchange_takes c (Turn k) s d e mine = turn_takes c k s (slice_get s.requests k) e mine
  exchange_takes c Fault s d e mine = goes_on c Fault s (s, []) e mine refl refl refl refl tt (λ _. refl) (λ _. refl)
  exchange_takes c (Reconfigure dgram stream) s d e mine =
      goes_on c (Reconfigure dgram stream) s (with_conf (conf_rule (Reconfigure dgram stream) s.conf) s, []) e mine refl refl refl refl tt (λ _. refl) (λ h. cc)
  exchange_takes c Shutdown s d e mine = goes_on c Shutdown s (with_conf (conf_rule Shutdown s.conf) s, []) e mine refl refl refl refl tt (λ _. refl) (λ h. cc)
  exchange_takes c _ s d e mine = absurd d

  pub exchange_stays : (e : Event) (s : Slate) → IsDatagramKind e.kind → s.phase ≡ Exchange → ((rule answers e s).0.phase ≡ Exchange) × ((rule answers e s).0.addr ≡ s.addr)
  exchange_stays e s d h =
      subst (λ (p : Phase). ((in_phase answers e p (with_conf (conf_rule e.kind s.conf) s)).0.phase ≡ Exchange) × ((in_phase answers e p (with_conf (conf_rule e.kind s.conf) s)).0.addr ≡ s.addr)) (sym h)
      ((exchange_takes s.client e.kind s d h refl).stays h)

  -- ---- either

  takes_in : (c : ℕ) (e : Event) (p : Phase) (s : Slate) → s.phase ≡ p → IsDatagramKind e.kind → (is_wide e.kind ≡ false → e.client ≡ c) → IsPlainIn c p s → Takes c e.kind s (rule answers e s)
  takes_in c e Unused s ph d mine h = subst (λ (x : Slate). Takes c e.kind x (rule answers e x)) (sym h) (unused_takes c e.at e.secs e.client e.kind s.conf d mine)
  takes_in c e Exchange s ph d mine h = subst (λ (p : Phase). Takes c e.kind s (in_phase answers e p (with_conf (conf_rule e.kind s.conf) s))) (sym ph) (exchange_takes c e.kind s d ph h)
  takes_in c e _ s ph d mine h = absurd h

  -- an event that a client hears
  pub takes : (c : ℕ) (e : Event) (s : Slate) → IsDatagramKind e.kind → (is_wide e.kind ≡ false → e.client ≡ c) → IsPlain c s → Takes c e.kind s (rule answers e s)
  takes c e s d mine h = takes_in c e s.phase s refl d mine h

-- ---- after some events

own_case : (c : ℕ) (x : Event) (q : List Event) (b : Bool) → concerns c x ≡ b → own c (x ∷ q) ≡ cond b (x ∷ own c q) (own c q)
own_case c x q b h = rw h refl

narrow : (kind : EventKind) (k : Conf) → IsDatagramKind kind → is_wide kind ≡ false → conf_rule kind k ≡ k
narrow (Datagram addr o) k d w = refl
narrow (Turn r) k d w = refl
narrow Fault k d w = refl
narrow (Reconfigure dgram stream) k d w = cc
narrow Shutdown k d w = cc
narrow _ k d w = absurd d

heard_wide : (w m : Bool) → (w || m) ≡ false → w ≡ false
heard_wide true m h = h
heard_wide false m h = refl

heard_mine : (w m : Bool) → (w || m) ≡ true → w ≡ false → m ≡ true
heard_mine true m h n = cc
heard_mine false m h n = h

same_number : (n c : ℕ) → nat_eq n c ≡ true → n ≡ c
same_number n c h = eqb-true n c h

-- who hears an event that not all hear
pub hears_own : (c : ℕ) (e : Event) → concerns c e ≡ true → is_wide e.kind ≡ false → e.client ≡ c
hears_own c e h w = same_number e.client c (heard_mine (is_wide e.kind) (nat_eq e.client c) h w)

-- a plain slate with the configurations that are in force
pub record IsAtConf (c : ℕ) (k : Conf) (s : Slate) : Type 0 where
  pub plain : IsPlain c s
  pub conf : s.conf ≡ k

module _ (answers : Serving) (c : ℕ) where
  plain_case : (s : Slate) (k : Conf) (x : Event) (q : List Event) (b : Bool) → concerns c x ≡ b → IsDatagramKind x.kind → IsAtConf c k s
      → ((t : Slate) (j : Conf) → IsAtConf c j t → IsAtConf c (conf_after j q) (slate_after answers t (own c q)))
      → IsAtConf c (conf_after (conf_rule x.kind k) q) (slate_after answers s (cond b (x ∷ own c q) (own c q)))
  plain_case s k x q true h d a more =
      let t = takes answers c x s d (hears_own c x h) a.plain in
      more (rule answers x s).0 (conf_rule x.kind k) (record { plain = t.plain; conf = t.conf ∙ ap (conf_rule x.kind) a.conf })
  plain_case s k x q false h d a more =
      more s (conf_rule x.kind k) (record { plain = a.plain; conf = a.conf ∙ sym (narrow x.kind k d (heard_wide (is_wide x.kind) (nat_eq x.client c) h)) })

  plain_after : (q : List Event) (s : Slate) (k : Conf) → AllDatagramKinds q → IsAtConf c k s → IsAtConf c (conf_after k q) (slate_after answers s (own c q))
  plain_after [] s k d a = a
  plain_after (x ∷ q) s k d a =
      subst (λ (es : List Event). IsAtConf c (conf_after (conf_rule x.kind k) q) (slate_after answers s es)) (sym (own_case c x q (concerns c x) refl))
      (plain_case s k x q (concerns c x) refl d.0 a (λ t j. plain_after q t j d.1))

module _ (answers : Serving) (settings : Settings) where
  pub plain_slate : (c : ℕ) (q : List Event) → AllDatagramKinds q → IsAtConf c (conf settings q) (slate answers settings c q)
  unfolding slate conf
  plain_slate c q d = plain_after answers c q (fresh (opening settings)) (opening settings) d (record { plain = refl; conf = refl })
