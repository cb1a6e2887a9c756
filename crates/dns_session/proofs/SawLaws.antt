-- A client's core that looks at the book.
use Rattle.dns_session.specs.Serving.{Serving}
use Rattle.std.proofs.Common.{◌≡◌, ◌≢◌, ℕ, List, [], ◌∷◌, ◌++◌, Bool, true, false, refl, ap, sym, ◌∙◌, subst}
use Rattle.std.specs.Prelude.{if◌then◌else◌, ◌==◌, not, ◌&&◌}
use Rattle.std.proofs.lemmas.Bool.{eq-eqb, ne_eqb}
use Rattle.std.proofs.lemmas.List.{append-nil}
use Rattle.dns_events.specs.declared.look.Look.{Look}
use Rattle.dns_framing.specs.Answer.{Answer}
use Rattle.dns_framing.specs.Config.{Connection, Dgram, Stream}
use Rattle.dns_events.specs.declared.event.Event.{Event}
use Rattle.dns_events.specs.declared.event.EventKind.TheVariants.{Reconfigure, Shutdown}
use Rattle.dns_events.specs.declared.event.Output.{Output}
use Rattle.dns_events.specs.declared.event.Why.TheVariants.{Shutdown as By_shutdown}
use Rattle.dns_framing.specs.Polls.{PolledRequest}
use Rattle.dns_session.specs.After.{slate_after, sent_after}
use Rattle.dns_session.specs.Connections.{reconfigured, wind_up}
use Rattle.dns_session.specs.News.{wide, new_configurations, news, look_effect}
use Rattle.dns_session.specs.Rule.{rule, in_phase}
use Rattle.dns_session.specs.Slate.{Slate, Effect, Phase, Unused, Exchange, Open, Flushing, Closed, Conf, conf_rule, with_conf}
use Rattle.dns_session.specs.Goings.{Leads, StateGoes, outputs_of, state_behind}
use Rattle.dns_session.specs.Stands.{GoesAs, Stands, StandsIn, state_is_open}
use Rattle.dns_session.specs.declared.client.ClientCore.{ClientCore}
use Rattle.dns_session.specs.declared.client.State.{State}
use Rattle.dns_session.specs.declared.client.State.TheVariants.{Exchange as Is_exchange, Open as Is_open, Flushing as Is_flushing, Closed as Is_closed, Lost as Is_lost}
use Rattle.dns_session.specs.declared.connection.OpenConnection.{OpenConnection}
use Rattle.dns_session.specs.declared.outcome.Outcome.{Outcome}
use Rattle.dns_session.specs.declared.outcome.Outcome.TheVariants.{Nothing}
use Rattle.dns_session.proofs.Left.{led_follows}
use Rattle.dns_session.proofs.Stepped.{in_leads, reconfigures}

module _ (answers : Serving) where
  -- configurations change none that the server shows by the state alone, and say nothing
  phase_quiet : (d : Dgram) (t : Stream) (p : Phase) (s : Slate)
      → ((in_phase answers (wide (Reconfigure d t)) p s).0.conf ≡ s.conf) × ((in_phase answers (wide (Reconfigure d t)) p s).1 ≡ [])
  phase_quiet d t Unused s = (refl, refl)
  phase_quiet d t _ s = (refl, refl)

  over_by : (b : Bool) (d : Dgram) (t : Stream) (c : Conf) → c.over ≡ b → (if b then c else record { dgram = d; stream = t; over = false }).over ≡ c.over
  over_by true d t c o = refl
  over_by false d t c o = sym o

  over_one : (d : Dgram) (t : Stream) (s : Slate) → (rule answers (wide (Reconfigure d t)) s).0.conf.over ≡ s.conf.over
  over_one d t s =
      ap (λ (c : Conf). c.over) (phase_quiet d t s.phase (with_conf (conf_rule (Reconfigure d t) s.conf) s)).0 ∙ over_by s.conf.over d t s.conf refl

  -- they say nothing, and whether a Shutdown came stays
  configured_over : (v : ℕ) (look : Look) (s : Slate) → (slate_after answers s (new_configurations v look)).conf.over ≡ s.conf.over
  configured_over v look s = (elim (look.version == v) as (λ b. (slate_after answers s (if b then [] else wide (Reconfigure look.dgram look.stream) ∷ [])).conf.over ≡ s.conf.over) [ true ↦ refl | false ↦ over_one look.dgram look.stream s ])

  configured_says : (v : ℕ) (look : Look) (s : Slate) → sent_after answers s (new_configurations v look) ≡ []
  configured_says v look s = (elim (look.version == v) as (λ b. sent_after answers s (if b then [] else wide (Reconfigure look.dgram look.stream) ∷ []) ≡ []) [ true ↦ refl | false ↦ append-nil (rule answers (wide (Reconfigure look.dgram look.stream)) s).1 ∙ (phase_quiet look.dgram look.stream s.phase (with_conf (conf_rule (Reconfigure look.dgram look.stream) s.conf) s)).1 ])

  slate_joined : (s : Slate) (es fs : List Event) → slate_after answers s (es ++ fs) ≡ slate_after answers (slate_after answers s es) fs
  slate_joined s [] fs = refl
  slate_joined s (e ∷ es) fs = slate_joined (rule answers e s).0 es fs

  -- all that is said is said at the end
  sent_joined : (s : Slate) (es fs : List Event) → sent_after answers s es ≡ [] → sent_after answers s (es ++ fs) ≡ sent_after answers (slate_after answers s es) fs
  sent_joined s [] fs n = refl
  sent_joined s (e ∷ es) fs n =
      let one : (rule answers e s).1 ≡ [] = first_none (rule answers e s).1 (sent_after answers (rule answers e s).0 es) n in
      let more : sent_after answers (rule answers e s).0 es ≡ [] = ap (λ os. os ++ sent_after answers (rule answers e s).0 es) (sym one) ∙ n in
      ap (λ os. os ++ sent_after answers (rule answers e s).0 (es ++ fs)) one ∙ sent_joined (rule answers e s).0 es fs more
    where
      first_none : (xs ys : List Output) → xs ++ ys ≡ [] → xs ≡ []
      first_none [] ys h = refl
      first_none (x ∷ xs) ys h = cc

  -- at a slate that isn't open
  shut_idle : (k : Bool) (d : Dgram) (t : Stream) (p : Phase) (s : Slate) → (p ≡ Open → ⊥) → in_phase answers (wide (if k then Shutdown else Reconfigure d t)) p s ≡ (s, [])
  shut_idle true d t Unused s n = refl
  shut_idle true d t Exchange s n = refl
  shut_idle true d t Open s n = absurd (n refl)
  shut_idle true d t (Flushing why) s n = refl
  shut_idle true d t Closed s n = refl
  shut_idle false d t Open s n = absurd (n refl)
  shut_idle false d t _ s n = refl

module _ {W R F : Type 0} (answer : PolledRequest F R → ℕ → Answer) (answers : Serving) where
  -- a core that isn't open stands for no open slate, and for each with other configurations
  not_open : (number : ℕ) (state : State W R F) (s : Slate) → state_is_open state ≡ false → StandsIn answer answers number state s → s.phase ≡ Open → ⊥
  not_open number (Is_exchange unfinished) s n h o = let p : Exchange ≡ Open = sym h.phase ∙ o in cc
  not_open number (Is_open c) s n h o = cc
  not_open number (Is_flushing c) s n h o = let p : Flushing c.why ≡ Open = sym h.phase ∙ o in cc
  not_open number (Is_closed freed) s n h o = let p : Closed ≡ Open = sym h.phase ∙ o in cc
  not_open number Is_lost s n h o = h

  other_conf : (number : ℕ) (state : State W R F) (conf : Conf) (s : Slate) → state_is_open state ≡ false → StandsIn answer answers number state s → StandsIn answer answers number state (with_conf conf s)
  other_conf number (Is_exchange unfinished) conf s n h = record { client = h.client; freed = h.freed; phase = h.phase; requests = h.requests; queue = h.queue }
  other_conf number (Is_open c) conf s n h = cc
  other_conf number (Is_flushing c) conf s n h = record { client = h.client; freed = h.freed; phase = h.phase; write_timeout = h.write_timeout; requests = h.requests; queue = h.queue }
  other_conf number (Is_closed freed) conf s n h = record { client = h.client; freed = h.freed; phase = h.phase; requests = h.requests; queue = h.queue }
  other_conf number Is_lost conf s n h = h

  open_over : (number : ℕ) (state : State W R F) (s : Slate) → StandsIn answer answers number state s → s.conf.over ≡ true → state_is_open state ≡ false
  open_over number (Is_exchange unfinished) s h o = refl
  open_over number (Is_open c) s h o = let n = h.not_over in cc
  open_over number (Is_flushing c) s h o = refl
  open_over number (Is_closed freed) s h o = refl
  open_over number Is_lost s h o = refl

  -- a version that was seen tells nothing
  pub hears_nothing : (core : ClientCore W R F) (look : Look) → look.version ≡ core.version → GoesAs answer answers core core [] (λ s. (slate_after answers s (new_configurations core.version look), []))
  hears_nothing core look e s h = let n = eq-eqb look.version core.version e in rw n (refl, h)

  -- a core of this number and state stands for what they stand for
  stands_by : (core : ClientCore W R F) (number : ℕ) (state : State W R F) (s : Slate) → core.client ≡ number → core.state ≡ state → StandsIn answer answers number state s → Stands answer answers core s
  stands_by core number state s same is h =
      let here = subst (λ (x : State W R F). StandsIn answer answers number x s) (sym is) h in
      subst (λ (n : ℕ). StandsIn answer answers n core.state s) (sym same) here

  abbrev Hears : ClientCore W R F → ClientCore W R F → Look → Type 0
  Hears old new look = GoesAs answer answers old new [] (λ s. (slate_after answers s (new_configurations old.version look), []))

  -- an open connection takes the configuration
  pub hears_open : (old new : ClientCore W R F) (look : Look) (c c' : OpenConnection W R F) (connection : Connection) → connection ≡ look.stream.connection_config → look.version ≢ old.version → old.state ≡ Is_open c
      → Leads answer answers c c' Nothing (λ s. (reconfigured connection s, []))
      → new.client ≡ old.client → new.state ≡ Is_open c' → Hears old new look
  hears_open old new look c c' connection config ne is f same state s stands =
      let n = ne_eqb look.version old.version ne in
      let x = wide (Reconfigure look.dgram look.stream) in
      let h = subst (λ (st : State W R F). StandsIn answer answers old.client st s) is stands in
      let leads = in_leads answer answers c c' Nothing x (reconfigures answer answers c c' look.dgram look.stream connection config f) in
      rw n (refl, stands_by new old.client (Is_open c') (rule answers x s).0 same state (leads old.client s h).1)

  -- no other keeps one
  pub hears_else : (old new : ClientCore W R F) (look : Look) → look.version ≢ old.version → state_is_open old.state ≡ false → new.client ≡ old.client → new.state ≡ old.state → Hears old new look
  hears_else old new look ne shut same state s stands =
      let n = ne_eqb look.version old.version ne in
      let conf = conf_rule (Reconfigure look.dgram look.stream) s.conf in
      let idle : rule answers (wide (Reconfigure look.dgram look.stream)) s ≡ (with_conf conf s, []) = shut_idle answers false look.dgram look.stream s.phase (with_conf conf s) (not_open old.client old.state s shut stands) in
      let named = stands_by new old.client old.state (with_conf conf s) same state (other_conf old.client old.state conf s shut stands) in
      rw n (refl, subst (λ (r : Effect). StandsIn answer answers new.client new.state r.0) (sym idle) named)

  -- an open connection is to be closed
  pub shuts_open : (number : ℕ) (old new : State W R F) (c : OpenConnection W R F) (outcome : Outcome) (outs : List Output)
      → old ≡ Is_open c
      → ((conf : Slate → Conf) → Leads answer answers c c outcome (λ s. wind_up By_shutdown s.queue (with_conf (conf s) s)))
      → outs ≡ outputs_of number outcome → new ≡ state_behind (Is_open c) outcome
      → StateGoes answer answers number old new outs (rule answers (wide Shutdown))
  shuts_open number old new c outcome outs is winds said state =
      led_follows answer answers number old new c c outcome outs (rule answers (wide Shutdown)) is
      (in_leads answer answers c c outcome (wide Shutdown) (winds (λ s. conf_rule Shutdown s.conf))) said state

  pub shuts_else : (number : ℕ) (state : State W R F) (outs : List Output) → state_is_open state ≡ false → outs ≡ [] → StateGoes answer answers number state state outs (rule answers (wide Shutdown))
  shuts_else number state outs shut none s stands =
      let conf = conf_rule Shutdown s.conf in
      let idle : rule answers (wide Shutdown) s ≡ (with_conf conf s, []) = shut_idle answers true s.conf.dgram s.conf.stream s.phase (with_conf conf s) (not_open number state s shut stands) in
      let there = other_conf number state conf s shut stands in
      (none ∙ sym (ap (λ (r : Effect). r.1) idle), subst (λ (r : Effect). StandsIn answer answers number state r.0) (sym idle) there)

  -- a look at a book that is open
  pub saw_quiet : (old mid : ClientCore W R F) (look : Look) (outs : List Output) → look.closed ≡ false → outs ≡ [] → Hears old mid look → GoesAs answer answers old mid outs (look_effect answers old.version look)
  saw_quiet old mid look outs open_yet none f s h =
      let k = f s h in
      let n : news old.version s.conf.over look ≡ new_configurations old.version look = ap (λ (b : Bool). new_configurations old.version look ++ (if b && not s.conf.over then wide Shutdown ∷ [] else [])) open_yet ∙ append-nil (new_configurations old.version look) in
      rw n (none ∙ sym (configured_says answers old.version look s), k.1)

  -- and at one that is closed: whoever heard of a Shutdown isn't open
  pub saw_end : (old mid new : ClientCore W R F) (look : Look) (outs : List Output) → look.closed ≡ true → Hears old mid look → GoesAs answer answers mid new outs (rule answers (wide Shutdown)) → GoesAs answer answers old new outs (look_effect answers old.version look)
  saw_end old mid new look outs closed f g s h =
      let nc = new_configurations old.version look in
      let t = slate_after answers s nc in
      let k = f s h in
      let r = g t k.1 in
      let says = configured_says answers old.version look s in
      let P : Bool → Type 0 = λ b. (outs ≡ sent_after answers s (nc ++ (if b then wide Shutdown ∷ [] else []))) × Stands answer answers new (slate_after answers s (nc ++ (if b then wide Shutdown ∷ [] else []))) in
      let go : (b : Bool) → s.conf.over ≡ not b → P b = λ b. (elim b as (λ b. s.conf.over ≡ not b → P b) [
        | true ↦ λ o. (
          r.0 ∙ sym (append-nil (rule answers (wide Shutdown) t).1) ∙ sym (sent_joined answers s nc (wide Shutdown ∷ []) says),
          rw (slate_joined answers s nc (wide Shutdown ∷ [])) r.1,
        )
        | false ↦ λ o.
            let over : t.conf.over ≡ true = configured_over answers old.version look s ∙ o in
            let shut = open_over mid.client mid.state t k.1 over in
            let conf = conf_rule Shutdown t.conf in
            let idle : rule answers (wide Shutdown) t ≡ (t, []) =
            shut_idle answers true t.conf.dgram t.conf.stream t.phase (with_conf conf t) (not_open mid.client mid.state t shut k.1)
            ∙ ap (λ (b : Bool). let u : Effect = (with_conf (record t.conf { over = b }) t, []) in u) (sym over) in
            let z = append-nil nc in
            rw z (r.0 ∙ ap (λ (u : Effect). u.1) idle ∙ sym says, subst (λ (u : Effect). Stands answer answers new u.0) idle r.1)
      ]) in
      let e : s.conf.over ≡ not (not s.conf.over) = (elim s.conf.over as (λ b. b ≡ not (not b)) [ true ↦ refl | false ↦ refl ]) in
      let n : news old.version s.conf.over look ≡ nc ++ (if not s.conf.over then wide Shutdown ∷ [] else []) = ap (λ (b : Bool). nc ++ (if b && not s.conf.over then wide Shutdown ∷ [] else [])) closed in
      rw n (go (not s.conf.over) e)
