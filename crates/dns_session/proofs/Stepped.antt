-- What follows from the state of a core.
use Rattle.dns_session.specs.Serving.{Serving}
use Rattle.std.proofs.Common.{◌≡◌, ℕ, zero, suc, List, [], ◌∷◌, length, Option, Some, None, Bool, true, false, refl, ap, sym, ◌∙◌, subst}
use Rattle.std.specs.Prelude.{◌==◌, slice_get, if◌then◌else◌, not, is_some}
use Rattle.std.proofs.lemmas.Bool.{eqb-false, eqb-true}
use Rattle.std.proofs.lemmas.List.{nil_from_length}
use Rattle.std.specs.List.{list_all}
use Rattle.dns_framing.specs.Answer.{Answer}
use Rattle.dns_framing.specs.Config.{Connection, Dgram, Stream}
use Rattle.dns_events.specs.declared.event.Event.{Event}
use Rattle.dns_events.specs.declared.event.EventKind.{EventKind}
use Rattle.dns_events.specs.declared.event.EventKind.TheVariants.{Piece, Turn, Write, Reconfigure}
use Rattle.dns_events.specs.declared.event.Output.TheVariants.{Closed as Closed_output}
use Rattle.dns_events.specs.declared.event.Why.{Why}
use Rattle.dns_session.specs.Connections.{close, reconfigured, wind_up}
use Rattle.dns_session.specs.Rule.{rule, in_phase, open_rule, flushing_rule}
use Rattle.dns_session.specs.Slate.{Slate, SlateRequest, Effect, Phase, Open, Flushing, Conf, conf_rule, with_conf}
use Rattle.dns_session.specs.Spent.{is_spent}
use Rattle.dns_session.specs.Goings.{IsLeft, Leads, LeadsOn, outputs_of, state_behind, changes_kept, takes_memory}
use Rattle.dns_session.specs.Stands.{IsExchange, IsOpen, Keeps, StandsIn, sole, state_is_spent}
use Rattle.dns_session.specs.declared.client.State.{State}
use Rattle.dns_session.specs.declared.client.State.TheVariants.{Exchange as Is_exchange, Open as Is_open, Flushing as Is_flushing, Closed as Is_closed, Lost as Is_lost}
use Rattle.dns_session.specs.declared.connection.OpenConnection.{OpenConnection}
use Rattle.dns_session.specs.declared.kept.KeptRequest.{KeptRequest}
use Rattle.dns_session.specs.declared.flushing.FlushingConnection.{FlushingConnection}
use Rattle.dns_session.specs.declared.outcome.Outcome.{Outcome}
use Rattle.dns_session.specs.declared.outcome.Outcome.TheVariants.{Nothing, WindsUp, Ends}
use Rattle.dns_framing.specs.Polls.{PolledRequest}
use Rattle.dns_session.proofs.Opens.{open_on}

-- the rule of the phase that a client is in
in_open : (answers : Serving) (e : Event) (p : Phase) (t : Slate) → p ≡ Open → in_phase answers e p t ≡ open_rule answers e e.kind t
in_open answers e p t is = rw is refl

in_flushing : (answers : Serving) (e : Event) (why : Why) (p : Phase) (t : Slate) → p ≡ Flushing why → in_phase answers e p t ≡ flushing_rule why e.kind t
in_flushing answers e why p t is = rw is refl

-- a queue that is empty, or isn't
pub no_items : (xs : List (List ℕ)) → (length xs == 0) ≡ true → xs ≡ []
no_items xs h = nil_from_length xs (eqb-true (length xs) 0 h)

pub some_items : (xs : List (List ℕ)) → (length xs == 0) ≡ false → xs ≡ [] → ⊥
some_items xs h e = eqb-false (length xs) 0 h (ap length e)

-- the slate that an event finds
abbrev pub met : Event → Slate → Slate
met e s = with_conf (conf_rule e.kind s.conf) s

-- an event that is neither octets nor a turn
pub without_memory : (k : EventKind) → ((o : List ℕ) → k ≡ Piece o → ⊥) → ((n : ℕ) → k ≡ Turn n → ⊥) → takes_memory k ≡ false
without_memory (Piece o) piece turn = absurd (piece o refl)
without_memory (Turn n) piece turn = absurd (turn n refl)
without_memory _ piece turn = refl

-- one that is no write and no configuration either
pub unchanged : (k : EventKind) → takes_memory k ≡ false → ((n : ℕ) → k ≡ Write n → ⊥) → ((d : Dgram) (t : Stream) → k ≡ Reconfigure d t → ⊥) → changes_kept k ≡ false
unchanged (Write n) quick write configure = absurd (write n refl)
unchanged (Reconfigure d t) quick write configure = absurd (configure d t refl)
unchanged (Piece o) quick write configure = quick
unchanged (Turn n) quick write configure = quick
unchanged _ quick write configure = refl

-- a configuration that comes before a Shutdown
not_over_yet : (over : Bool) (conf : Conf) (dgram : Dgram) (stream : Stream) → over ≡ false → conf.over ≡ false → (if over then conf else record { dgram = dgram; stream = stream; over = false }).over ≡ false
not_over_yet true conf dgram stream e h = h
not_over_yet false conf dgram stream e h = refl

-- what one that only writes what waits does
pub in_leads_on : (answers : Serving) (old new : FlushingConnection) (outcome : Outcome) (e : Event)
    → LeadsOn old new outcome (λ s. flushing_rule old.why e.kind (met e s)) → LeadsOn old new outcome (rule answers e)
in_leads_on answers old new outcome e f client s h =
    let P : Effect → Type 0 = λ t. (outputs_of client outcome ≡ t.1) × IsLeft client new outcome t.0 in
    subst P (sym (in_flushing answers e old.why s.phase (met e s) h.phase)) (f client s h)

module _ {R F : Type 0} (answer : PolledRequest F R → ℕ → Answer) (answers : Serving) where
  all_done : (rs : List SlateRequest) → ((k : ℕ) → Keeps answer answers None (slice_get rs k)) → list_all (λ (r : SlateRequest). r.done) rs ≡ true
  all_done [] h = refl
  all_done (r ∷ rs) h = rw (h 0) (all_done rs (λ k. h (suc k)))

  none_sole : (x : Option SlateRequest) (k : ℕ) → Keeps answer answers (sole None k) x → Keeps answer answers None x
  none_sole x zero h = h
  none_sole x (suc k) h = h

  some_open : (q : KeptRequest F R) (rs : List SlateRequest) → Keeps answer answers (Some q) (slice_get rs 0) → list_all (λ (r : SlateRequest). r.done) rs ≡ false
  some_open q [] h = absurd h
  some_open q (r ∷ rs) h = rw h.going refl

  -- by what is kept of an exchange
  pub exchange_spent : (kept : Option (KeptRequest F R)) (client : ℕ) (s : Slate) → IsExchange answer answers client kept s → not (is_some kept) ≡ is_spent s
  exchange_spent None client s h = rw h.phase (sym (all_done s.requests (λ k. none_sole (slice_get s.requests k) k (h.requests k))))
  exchange_spent (Some q) client s h = rw h.phase (sym (some_open q s.requests (h.requests 0)))

  module _ {W : Type 0} where
    -- what an open connection does
    pub in_leads : (old new : OpenConnection W R F) (outcome : Outcome) (e : Event)
        → Leads answer answers old new outcome (λ s. open_rule answers e e.kind (met e s)) → Leads answer answers old new outcome (rule answers e)
    in_leads old new outcome e f client s h =
        let P : Effect → Type 0 = λ t. (outputs_of client outcome ≡ t.1) × StandsIn answer answers client (state_behind (Is_open new) outcome) t.0 in
        subst P (sym (in_open answers e s.phase (met e s) h.phase)) (f client s h)

    pub rests : (c : OpenConnection W R F) → Leads answer answers c c Nothing (λ s. (s, []))
    rests c client s h = (refl, h)

    pub turns : (old new : OpenConnection W R F) (after : Slate → Slate) → ((client : ℕ) (s : Slate) → IsOpen answer answers client old s → IsOpen answer answers client new (after s)) → Leads answer answers old new Nothing (λ s. (after s, []))
    turns old new after f client s h = (refl, f client s h)

    pub closes : (c : OpenConnection W R F) (why : Why) → Leads answer answers c c (Ends why) (λ s. close why s)
    closes c why client s h = (ap (λ (n : ℕ). Closed_output n why ∷ []) h.client, record { client = h.client; freed = h.freed; phase = refl; requests = refl; queue = refl })

    -- the server's configurations are others
    met_open : (client : ℕ) (c : OpenConnection W R F) (conf : Conf) (s : Slate) → conf.over ≡ false → IsOpen answer answers client c s → IsOpen answer answers client c (with_conf conf s)
    met_open client c conf s e h = open_on answer answers refl e h.idle_timeout h.timer h.kept h.within h.requests h.queue h.bound h.budget h

    -- the configuration that holds from now on is one of those that the server shows
    pub reconfigures : (old new : OpenConnection W R F) (dgram : Dgram) (stream : Stream) (connection : Connection) → connection ≡ stream.connection_config
        → Leads answer answers old new Nothing (λ s. (reconfigured connection s, []))
        → Leads answer answers old new Nothing (λ s. (reconfigured stream.connection_config (with_conf (if s.conf.over then s.conf else record { dgram = dgram; stream = stream; over = false }) s), []))
    reconfigures old new dgram stream connection is f client s h =
        let conf : Conf = if s.conf.over then s.conf else record { dgram = dgram; stream = stream; over = false } in
        let one = f client (with_conf conf s) (met_open client old conf s (not_over_yet s.conf.over s.conf dgram stream h.not_over h.not_over) h) in
        subst (λ (x : Connection). (outputs_of client Nothing ≡ []) × IsOpen answer answers client new (reconfigured x (with_conf conf s))) is one

    -- it is to be closed
    pub wound_at_once : (c : OpenConnection W R F) (why : Why) (conf : Slate → Conf) → c.invoker.queue.items ≡ [] → Leads answer answers c c (Ends why) (λ s. wind_up why s.queue (with_conf (conf s) s))
    wound_at_once c why conf e client s h =
        let none : s.queue ≡ [] = sym h.queue ∙ e in
        let P : List (List ℕ) → Type 0 = λ q. (outputs_of client (Ends why) ≡ (wind_up why q (with_conf (conf s) s)).1) × StandsIn answer answers client (state_behind (Is_open c) (Ends why)) (wind_up why q (with_conf (conf s) s)).0 in
        subst P (sym none) (ap (λ (n : ℕ). Closed_output n why ∷ []) h.client, record { client = h.client; freed = h.freed; phase = refl; requests = refl; queue = refl })

    wound_with : (c : OpenConnection W R F) (why : Why) (conf : Conf) (client : ℕ) (s : Slate) (q : List (List ℕ)) → IsOpen answer answers client c s → (q ≡ [] → ⊥)
        → (outputs_of client (WindsUp why) ≡ (wind_up why q (with_conf conf s)).1) × StandsIn answer answers client (state_behind (Is_open c) (WindsUp why)) (wind_up why q (with_conf conf s)).0
    wound_with c why conf client s [] h some = absurd (some refl)
    wound_with c why conf client s (m ∷ ms) h some = (refl, record { client = h.client; freed = h.freed; phase = refl; write_timeout = h.write_timeout; requests = refl; queue = h.queue })

    pub wound_later : (c : OpenConnection W R F) (why : Why) (conf : Slate → Conf) → (c.invoker.queue.items ≡ [] → ⊥) → Leads answer answers c c (WindsUp why) (λ s. wind_up why s.queue (with_conf (conf s) s))
    wound_later c why conf some client s h = wound_with c why (conf s) client s s.queue h (λ (e : s.queue ≡ []). some (h.queue ∙ e))

    -- by the state
    pub spent : (client : ℕ) (state : State W R F) (s : Slate) → StandsIn answer answers client state s → state_is_spent state ≡ is_spent s
    spent client (Is_exchange kept) s h = exchange_spent kept client s h
    spent client (Is_open c) s h = rw h.phase refl
    spent client (Is_flushing c) s h = rw h.phase refl
    spent client (Is_closed freed) s h = rw h.phase (sym h.freed)
    spent client Is_lost s h = absurd h
