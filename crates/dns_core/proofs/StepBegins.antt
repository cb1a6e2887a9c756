-- A server whose clients look for themselves, after an offer or a datagram.
use Rattle.dns_session.specs.Serving.{Serving}
use Rattle.std.proofs.Common.{◌≡◌, ◌≢◌, ℕ, ◌≤◌, ◌⊎◌, List, [], ◌∷◌, ◌++◌, None, Bool, true, false, refl, ap, sym, ◌∙◌, subst, ⊎_elim, lt-ltb}
use Rattle.std.specs.Prelude.{nat_eq, if◌then◌else◌, not}
use Rattle.std.specs.List.{list_any}
use Rattle.std.specs.Ordering.{nat_cmp}
use Rattle.std.specs.BTreeMap.{BTreeMap, get}
use Rattle.std.specs.BTreeSet.{BTreeSet, contains}
use Rattle.std.proofs.lemmas.Bool.{cases_eq, eq-eqb, ne_eqb, le-ltb, not-true, not-false}
use Rattle.std.proofs.lemmas.List.{append-nil}
use Rattle.dns_core.proofs.KeptCore.{entered, entered_at, none_at, none_stands, nothing_either_way, nothing_held}
use Rattle.dns_name.specs.declared.address.SocketAddr.{SocketAddr}
use Rattle.dns_events.specs.declared.look.Look.{Look as State}
use Rattle.dns_admission.specs.declared.admission.Admission.TheVariants.{Admitted, Full}
use Rattle.dns_admission.specs.declared.call.Call.TheVariants as call
use Rattle.dns_admission.specs.Admissions.{Admits}
use Rattle.dns_admission.specs.Machine.{has_slot, limit_of, reply_of, state_after}
use Rattle.dns_service.specs.Answer.{Answer}
use Rattle.dns_events.specs.declared.event.Event.{Event}
use Rattle.dns_events.specs.declared.event.EventKind.{EventKind}
use Rattle.dns_events.specs.declared.event.EventKind.TheVariants.{Datagram, Offer}
use Rattle.dns_events.specs.declared.event.Output.{Output}
use Rattle.dns_events.specs.declared.event.Output.TheVariants.{TurnedAway}
use Rattle.dns_events.specs.declared.event.Step.{Step}
use Rattle.dns_events.specs.declared.event.Step.TheVariants.{Own}
use Rattle.dns_service.specs.declared.polled.PolledRequest.{PolledRequest}
use Rattle.dns_session.specs.After.{slate_after, sent_after}
use Rattle.dns_session.specs.Connections.{opened}
use Rattle.dns_session.specs.Datagrams.{datagram}
use Rattle.dns_session.specs.Rule.{rule}
use Rattle.dns_session.specs.Slate.{Slate, Conf, Effect, IsUnused, conf_of, fresh}
use Rattle.dns_session.specs.Stands.{Stands, state_is_spent}
use Rattle.dns_session.specs.declared.client.ClientCore.{ClientCore}
use Rattle.dns_core.specs.Own.{is_wide}
use Rattle.dns_core.specs.Out.{is_unused, put}
use Rattle.dns_core.specs.Serves.{Holds, IsAt, EntersWith}
use Rattle.dns_core.specs.Placed.{Knowledge, book_now, own_events, is_beginning, looks, learns, knows}
use Rattle.dns_core.specs.Outs.{Membership, placed_slate, placed_gain, membership, step_gained, call_for, call_at, enters, enters_at, refused_offer}
use Rattle.dns_core.specs.SplitServer.{ServesSteps}
use Rattle.dns_events.specs.declared.settings.Settings.{Settings}
use Rattle.dns_core.specs.declared.server.Server.{Server}
use Rattle.dns_core.proofs.Counted.{put_there, put_other}
use Rattle.dns_core.proofs.Late.{late_datagram, late_offer}
use Rattle.dns_core.proofs.Plain.{Plain, unused_is, begun, offered, used_datagram, used_offer}
use Rattle.dns_core.proofs.OutLemmas.{sent_after_append}
use Rattle.dns_core.proofs.Placing.{slate_append, knows_more, slate_more, gain_more, membership_more}
use Rattle.dns_core.proofs.Tied.{tied, heard_slate, still_closed, middle_plain, unused_says}
use Rattle.dns_core.proofs.Stepping.{other_quiet, quiet_slate, quiet_seen, own_slate, own_gain, members_same, book_more}

-- ---- one that begins
pub begin_narrow : (k : EventKind) → is_beginning k ≡ true → is_wide k ≡ false
begin_narrow (Offer addr) h = refl
begin_narrow (Datagram addr o) h = refl
begin_narrow _ h = cc

pub begin_looks : (k : Knowledge) (e : Event) → is_beginning e.kind ≡ true → looks e.client k.began (Own e) ≡ not k.began
begin_looks k e h = let s = eq-eqb e.client e.client refl in rw (h, s) refl

begin_own : (e : Event) → is_beginning e.kind ≡ true → own_events e.client (Own e) ≡ e ∷ []
begin_own e h = let s = eq-eqb e.client e.client refl in let w = begin_narrow e.kind h in rw (w, s) refl

-- ---- the book
pub used_call : (k : EventKind) (sl : Slate) (m : Bool) → is_beginning k ≡ true → is_unused sl.phase ≡ false → call_for sl m k ≡ call.Look
used_call (Offer addr) sl m h u = rw u refl
used_call (Datagram addr o) sl m h u = refl
used_call _ sl m h u = cc

pub used_enters : (k : EventKind) (sl : Slate) (b : State) → is_beginning k ≡ true → is_unused sl.phase ≡ false → enters sl b (reply_of b call.Look) k ≡ false
used_enters (Offer addr) sl b h u = refl
used_enters (Datagram addr o) sl b h u = rw u refl
used_enters _ sl b h u = cc

pub record Refuses (k : EventKind) (sl : Slate) (m : Bool) (b : State) : Type 0 where
  pub state : state_after b (call_for sl m k) ≡ b
  pub says : (c : ℕ) → refused_offer c (reply_of b (call_for sl m k)) ≡ []
  pub enters : enters sl b (reply_of b (call_for sl m k)) k ≡ false

pub closed_refuses : (k : EventKind) (sl : Slate) (m : Bool) (b : State) → is_beginning k ≡ true → is_unused sl.phase ≡ true → b.closed ≡ true → Refuses k sl m b
closed_refuses (Offer addr) sl m b h u cl = record { state = rw (u, cl) refl; says = λ c. rw (u, cl) refl; enters = rw (u, cl) refl }
closed_refuses (Datagram addr o) sl m b h u cl = record { state = refl; says = λ c. refl; enters = rw (u, cl) refl }
closed_refuses _ sl m b h u cl = cc

module _ (answers : Serving) where
  pub begin_late : (k : EventKind) (e : Event) (s : Slate) → e.kind ≡ k → is_beginning k ≡ true → s.conf.over ≡ true → rule answers e s ≡ (s, [])
  begin_late (Offer addr) e s is h o = late_offer answers e addr s is o
  begin_late (Datagram addr x) e s is h o = late_datagram answers e addr x s is o
  begin_late _ e s is h o = cc

  pub begin_used : (k : EventKind) (e : Event) (s : Slate) → e.kind ≡ k → is_beginning k ≡ true → is_unused s.phase ≡ false → rule answers e s ≡ (s, [])
  begin_used (Offer addr) e s is h u = used_offer answers e addr s is u
  begin_used (Datagram addr x) e s is h u = used_datagram answers e addr x s is u
  begin_used _ e s is h u = cc

  module _ (settings : Settings) where
    -- the slate of an unused client as the event by which it begins finds it
    abbrev pub met : List Step → Event → Slate
    met q e =
        let k = knows settings e.client q in
        slate_after answers (placed_slate answers settings e.client q) (if looks e.client k.began (Own e) then k.unheard else [])

    pub record Meets (q : List Step) (e : Event) : Type 0 where
      pub slate : placed_slate answers settings e.client (q ++ Own e ∷ []) ≡ (rule answers e (met q e)).0
      pub gain : placed_gain answers settings e.client q (Own e) ≡ (rule answers e (met q e)).1
      pub unused : is_unused (met q e).phase ≡ true
      pub plain : Plain answers (conf_of (learns e.client (knows settings e.client q) (Own e)).seen) (met q e)

    pub meets : (q : List Step) (e : Event) → is_beginning e.kind ≡ true → is_unused (placed_slate answers settings e.client q).phase ≡ true → Meets q e
    meets q e k un =
        let c = e.client in
        let kn = knows settings c q in
        let sl = placed_slate answers settings c q in
        let t = (tied answers settings c q).slate in
        let l = looks c kn.began (Own e) in
        let es = if l then kn.unheard else [] in
        let quiet : sent_after answers sl es ≡ [] = (elim l as (λ l. sent_after answers sl (if l then kn.unheard else []) ≡ []) [ true ↦ unused_says answers kn.seen kn.unheard sl t.enter un | false ↦ refl ]) in
        record {
          slate = slate_more answers settings c q (Own e) ∙ slate_append answers es (own_events c (Own e)) sl ∙ ap (slate_after answers (met q e)) (begin_own e k);
          gain = gain_more answers settings c q (Own e) ∙ sent_after_append answers sl es (own_events c (Own e)) ∙ ap (λ os. os ++ sent_after answers (met q e) (own_events c (Own e))) quiet ∙ ap (sent_after answers (met q e)) (begin_own e k) ∙ append-nil (rule answers e (met q e)).1;
          unused = heard_slate answers l kn sl t ∙ un;
          plain = middle_plain answers l kn sl t;
        }

    seen_closed : (b : Bool) (q : List Step) (c : ℕ) → (knows settings c q).began ≡ b → is_unused (placed_slate answers settings c q).phase ≡ true → (membership answers settings q).book.closed ≡ true → (if not b then book_now (knows settings c q) else (knows settings c q).seen).closed ≡ true
    seen_closed true q c is un cl = (tied answers settings c q).slate.over is un
    seen_closed false q c is un cl = ap (λ (x : State). x.closed) (sym (tied answers settings c q).book) ∙ cl

    -- a closed book: whoever comes hears of that, or did
    pub met_closed : (q : List Step) (e : Event) → is_beginning e.kind ≡ true → is_unused (placed_slate answers settings e.client q).phase ≡ true → (membership answers settings q).book.closed ≡ true
        → (is_unused (placed_slate answers settings e.client (q ++ Own e ∷ [])).phase ≡ true) × (placed_gain answers settings e.client q (Own e) ≡ [])
    met_closed q e k un cl =
        let c = e.client in
        let kn = knows settings c q in
        let m = meets q e k un in
        let over : (met q e).conf.over ≡ true = ap (λ (x : Conf). x.over) m.plain.conf ∙ rw (begin_looks kn e k) (seen_closed kn.began q c refl un cl) in
        let idle = begin_late e.kind e (met q e) refl k over in
        (ap (λ (s : Slate). is_unused s.phase) (m.slate ∙ ap (λ (r : Effect). r.0) idle) ∙ m.unused, m.gain ∙ ap (λ (r : Effect). r.1) idle)

    pub none_before : (b : Bool) (q : List Step) (c : ℕ) → (knows settings c q).began ≡ b → is_unused (placed_slate answers settings c q).phase ≡ true → (membership answers settings q).book.closed ≡ false → b ≡ false
    none_before false q c is un cl = refl
    none_before true q c is un cl =
        let kn = knows settings c q in
        let t = tied answers settings c q in
        let o = still_closed answers true kn t.slate.enter (t.slate.over is un) in
        let p : (book_now kn).closed ≡ false = ap (λ (x : State). x.closed) (sym t.book) ∙ cl in
        cc

    -- an open book: the event is the client's first
    pub record MetOpen (q : List Step) (e : Event) : Type 0 where
      pub unused : IsUnused (met q e)
      pub shown : (met q e).conf ≡ conf_of (membership answers settings q).book
      pub not_over : (met q e).conf.over ≡ false
      pub version : (knows settings e.client (q ++ Own e ∷ [])).seen.version ≡ (membership answers settings q).book.version

    pub met_open : (q : List Step) (e : Event) → is_beginning e.kind ≡ true → is_unused (placed_slate answers settings e.client q).phase ≡ true → (membership answers settings q).book.closed ≡ false → MetOpen q e
    met_open q e k un cl =
        let c = e.client in
        let kn = knows settings c q in
        let t = tied answers settings c q in
        let m = meets q e k un in
        let first : kn.began ≡ false = none_before kn.began q c refl un cl in
        let l : looks c kn.began (Own e) ≡ true = begin_looks kn e k ∙ ap not first in
        let seen : (learns c kn (Own e)).seen ≡ book_now kn = rw l refl in
        let conf : (met q e).conf ≡ conf_of (membership answers settings q).book = m.plain.conf ∙ ap conf_of seen ∙ ap conf_of (sym t.book) in
        record {
          unused = m.plain.unused m.unused ∙ ap fresh (sym m.plain.conf);
          shown = conf;
          not_over = ap (λ (x : Conf). x.over) conf ∙ cl;
          version = ap (λ (x : Knowledge). x.seen.version) (knows_more settings c q (Own e)) ∙ ap (λ (x : State). x.version) (seen ∙ sym t.book);
        }

module _ {W R F : Type 0} (answer : PolledRequest F R → ℕ → Answer) (answers : Serving) where
  module _ (settings : Settings) where
    -- a used number
    pub used_goes : (old : Server W R F) (q : List Step) (e : Event) (outs : List Output) → is_beginning e.kind ≡ true → outs ≡ [] → contains nat_cmp old.used e.client ≡ true → ServesSteps answer answers settings q old
        → (outs ≡ step_gained answers settings q (Own e)) × ServesSteps answer answers settings (q ++ Own e ∷ []) old
    used_goes old q e outs k none there h =
        let c = e.client in
        let wd = begin_narrow e.kind k in
        let sl = placed_slate answers settings c q in
        let kn = knows settings c q in
        let hl = membership answers settings q in
        let member = list_any (nat_eq c) hl.members in
        let used : is_unused sl.phase ≡ false = not-true (is_unused sl.phase) (sym (h.used c) ∙ there) in
        let began = (tied answers settings c q).slate.begun used in
        let nl : looks c kn.began (Own e) ≡ false = begin_looks kn e k ∙ ap not began in
        let called : call_at answers settings q hl.members (Own e) ≡ call.Look = used_call e.kind sl member k used in
        let out : enters_at answers settings q hl (Own e) ≡ false = rw called (used_enters e.kind sl hl.book k used) in
        let ms = members_same answers settings q (Own e) out in
        let idle = begin_used answers e.kind e sl refl k used in
        let still : (d : ℕ) → placed_slate answers settings d (q ++ Own e ∷ []) ≡ placed_slate answers settings d q = λ d. ⊎_elim
        (λ (same : d ≡ c). rw same (own_slate answers settings q e wd nl ∙ ap (λ (r : Effect). r.0) idle))
        (λ (apart : d ≢ c). quiet_slate answers settings d q (Own e) (other_quiet d (knows settings d q) e apart))
        (cases_eq d c) in
        let seen : (d : ℕ) → (knows settings d (q ++ Own e ∷ [])).seen ≡ (knows settings d q).seen = λ d. ⊎_elim
        (λ (same : d ≡ c). rw same (quiet_seen answers settings c q (Own e) nl))
        (λ (apart : d ≢ c). quiet_seen answers settings d q (Own e) (other_quiet d (knows settings d q) e apart).looks)
        (cases_eq d c) in (
          none ∙ nothing_either_way (list_any (nat_eq c) (membership answers settings (q ++ Own e ∷ [])).members) (placed_gain answers settings c q (Own e)) (own_gain answers settings q e wd nl ∙ ap (λ (r : Effect). r.1) idle) ∙ sym (rw called refl),
          record {
            clients = λ d. rw (ms, still d) (h.clients d);
            versions = λ d. rw (seen d) (h.versions d);
            used = λ d. h.used d ∙ ap (λ (s : Slate). not (is_unused s.phase)) (sym (still d));
            book = h.book ∙ sym (book_more answers settings q (Own e) ∙ rw called refl);
          },
        )

    -- an unused number
    pub record IsFree (old : Server W R F) (q : List Step) (e : Event) : Type 0 where
      pub unused : is_unused (placed_slate answers settings e.client q).phase ≡ true
      pub no_core : get nat_cmp old.clients e.client ≡ None
      pub no_member : list_any (nat_eq e.client) (membership answers settings q).members ≡ false

    pub is_free : (old : Server W R F) (q : List Step) (e : Event) → contains nat_cmp old.used e.client ≡ false → ServesSteps answer answers settings q old → IsFree old q e
    is_free old q e free h =
        let c = e.client in
        let sl = placed_slate answers settings c q in
        let un : is_unused sl.phase ≡ true = not-false (is_unused sl.phase) (sym (h.used c) ∙ free) in
        let none = nothing_held answer answers (get nat_cmp old.clients c) (list_any (nat_eq c) (membership answers settings q).members) sl un (h.clients c) in
        record { unused = un; no_core = none.0; no_member = none.1 }

    others_used : (old : Server W R F) (q : List Step) (e : Event) → ServesSteps answer answers settings q old → (d : ℕ) → d ≢ e.client → contains nat_cmp old.used d ≡ not (is_unused (placed_slate answers settings d (q ++ Own e ∷ [])).phase)
    others_used old q e h d apart = h.used d ∙ ap (λ (s : Slate). not (is_unused s.phase)) (sym (quiet_slate answers settings d q (Own e) (other_quiet d (knows settings d q) e apart)))

    -- a client that doesn't enter, of which nothing is kept
    record Out (old : Server W R F) (q : List Step) (e : Event) : Type 0 where
      no_member : list_any (nat_eq e.client) (membership answers settings (q ++ Own e ∷ [])).members ≡ false
      clients : (d : ℕ) → Holds answer answers (get nat_cmp old.clients d) (list_any (nat_eq d) (membership answers settings (q ++ Own e ∷ [])).members) (placed_slate answers settings d (q ++ Own e ∷ []))
      versions : (d : ℕ) → IsAt (get nat_cmp old.clients d) (knows settings d (q ++ Own e ∷ [])).seen.version

    stays_out : (old : Server W R F) (q : List Step) (e : Event) → IsFree old q e → enters_at answers settings q (membership answers settings q) (Own e) ≡ false → ServesSteps answer answers settings q old → Out old q e
    stays_out old q e f stays h =
        let c = e.client in
        let ms = members_same answers settings q (Own e) stays in
        let out : list_any (nat_eq c) (membership answers settings (q ++ Own e ∷ [])).members ≡ false = ap (list_any (nat_eq c)) ms ∙ f.no_member in
        record {
          no_member = out;
          clients = λ d. ⊎_elim
              (λ (same : d ≡ c). rw (same, out) (none_stands answer answers (get nat_cmp old.clients c) (placed_slate answers settings c (q ++ Own e ∷ [])) f.no_core))
              (λ (apart : d ≢ c). rw (ms, quiet_slate answers settings d q (Own e) (other_quiet d (knows settings d q) e apart)) (h.clients d))
              (cases_eq d c);
          versions = λ d. ⊎_elim
              (λ (same : d ≡ c). rw same (none_at (get nat_cmp old.clients c) (knows settings c (q ++ Own e ∷ [])).seen.version f.no_core))
              (λ (apart : d ≢ c). rw (quiet_seen answers settings d q (Own e) (other_quiet d (knows settings d q) e apart).looks) (h.versions d))
              (cases_eq d c);
        }

    -- a closed book
    pub closed_goes : (old : Server W R F) (b : State) (q : List Step) (e : Event) (outs : List Output) → is_beginning e.kind ≡ true → outs ≡ [] → contains nat_cmp old.used e.client ≡ false → old.book.closed ≡ true → b ≡ old.book → ServesSteps answer answers settings q old
        → (outs ≡ step_gained answers settings q (Own e)) × ServesSteps answer answers settings (q ++ Own e ∷ []) (record old { book = b })
    closed_goes old b q e outs k none free cl bk h =
        let c = e.client in
        let f = is_free old q e free h in
        let hl = membership answers settings q in
        let cl' : hl.book.closed ≡ true = ap (λ (x : State). x.closed) (sym h.book) ∙ cl in
        let after = met_closed answers settings q e k f.unused cl' in
        let refuses = closed_refuses e.kind (placed_slate answers settings c q) (list_any (nat_eq c) hl.members) hl.book k f.unused cl' in
        let o = stays_out old q e f refuses.enters h in (
          none ∙ sym (rw (o.no_member, refuses.says c) refl),
          record {
            clients = o.clients;
            versions = o.versions;
            used = λ d. ⊎_elim
                (λ (same : d ≡ c). rw (same, after.0) free)
                (λ (apart : d ≢ c). others_used old q e h d apart)
                (cases_eq d c);
            book = bk ∙ (h.book ∙ sym (book_more answers settings q (Own e) ∙ refuses.state));
          },
        )

    -- every slot is taken
    pub away_goes : (old : Server W R F) (u : BTreeSet ℕ) (b : State) (q : List Step) (e : Event) (addr : SocketAddr) (outs : List Output) → e.kind ≡ Offer addr → contains nat_cmp old.used e.client ≡ false
        → old.book.closed ≡ false → has_slot old.book ≡ false → b ≡ old.book
        → outs ≡ TurnedAway e.client old.book.stream.accept_connections_at_max ∷ []
        → ((c : ℕ) → contains nat_cmp u c ≡ (if nat_eq c e.client then true else contains nat_cmp old.used c))
        → ServesSteps answer answers settings q old
        → (outs ≡ step_gained answers settings q (Own e)) × ServesSteps answer answers settings (q ++ Own e ∷ []) (record old { used = u; book = b })
    away_goes old u b q e addr outs kind free cl full bk said hu h =
        let c = e.client in
        let k : is_beginning e.kind ≡ true = ap is_beginning kind in
        let f = is_free old q e free h in
        let hl = membership answers settings q in
        let cl' : hl.book.closed ≡ false = ap (λ (x : State). x.closed) (sym h.book) ∙ cl in
        let full' : has_slot hl.book ≡ false = ap has_slot (sym h.book) ∙ full in
        let op = met_open answers settings q e k f.unused cl' in
        let m = meets answers settings q e k f.unused in
        let opens : (rule answers e (met answers settings q e)).0 ≡ opened c addr e.at (met answers settings q e) = ap (λ (r : Effect). r.0) (offered answers e (met answers settings q e) addr kind (unused_is (met answers settings q e).phase m.unused) op.not_over) in
        let called : call_at answers settings q hl.members (Own e) ≡ call.Admit = rw (kind, f.unused) refl in
        let out' : enters_at answers settings q hl (Own e) ≡ false = rw (called, cl', full', kind) refl in
        let o = stays_out old q e f out' h in (
          said ∙ ap (λ (x : State). TurnedAway c x.stream.accept_connections_at_max ∷ []) h.book ∙ sym (rw (o.no_member, called, cl', full') refl),
          record {
            clients = o.clients;
            versions = o.versions;
            used = λ d. ⊎_elim
                (λ (same : d ≡ c). hu d ∙ rw (same, eq-eqb c c refl, m.slate, opens) refl)
                (λ (apart : d ≢ c). hu d ∙ rw (ne_eqb d c apart) (others_used old q e h d apart))
                (cases_eq d c);
            book = bk ∙ (h.book ∙ sym (book_more answers settings q (Own e) ∙ rw (called, cl', full') refl));
          },
        )

    -- a client begins, with what is kept of it
    begin_goes : (old : Server W R F) (m : BTreeMap ℕ (ClientCore W R F)) (u : BTreeSet ℕ) (b : State) (core : ClientCore W R F) (q : List Step) (e : Event) (outs : List Output) → is_beginning e.kind ≡ true → contains nat_cmp old.used e.client ≡ false
        → enters_at answers settings q (membership answers settings q) (Own e) ≡ true
        → b ≡ state_after (membership answers settings q).book (call_at answers settings q (membership answers settings q).members (Own e))
        → is_unused (rule answers e (met answers settings q e)).0.phase ≡ false
        → (outs ≡ (rule answers e (met answers settings q e)).1) × Stands answer answers core (rule answers e (met answers settings q e)).0
        → core.version ≡ (knows settings e.client (q ++ Own e ∷ [])).seen.version
        → EntersWith answer answers old.clients m old.used u core e.client
        → ServesSteps answer answers settings q old
        → (outs ≡ step_gained answers settings q (Own e)) × ServesSteps answer answers settings (q ++ Own e ∷ []) (record { clients = m; used = u; book = b })
    begin_goes old m u b core q e outs k free joins bk opens st version w h =
        let c = e.client in
        let f = is_free old q e free h in
        let hl = membership answers settings q in
        let me = meets answers settings q e k f.unused in
        let ms : (membership answers settings (q ++ Own e ∷ [])).members ≡ put c hl.members = ap (λ (x : Membership). x.members) (membership_more answers settings q (Own e)) ∙ rw joins refl in
        let in_now : list_any (nat_eq c) (membership answers settings (q ++ Own e ∷ [])).members ≡ true = ap (list_any (nat_eq c)) ms ∙ put_there c hl.members in (
          st.0 ∙ sym (rw in_now me.gain),
          record {
            clients = λ d. ⊎_elim
                (λ (same : d ≡ c). rw (same, in_now, me.slate, w.here) (entered answer answers (get nat_cmp old.clients c) core (rule answers e (met answers settings q e)).0 (state_is_spent core.state) (w.spent (rule answers e (met answers settings q e)).0 st.1) st.1 f.no_core))
                (λ (apart : d ≢ c). rw (ms, put_other d c hl.members apart, quiet_slate answers settings d q (Own e) (other_quiet d (knows settings d q) e apart), w.others d apart) (h.clients d))
                (cases_eq d c);
            versions = λ d. ⊎_elim
                (λ (same : d ≡ c). rw (same, w.here) (entered_at (get nat_cmp old.clients c) core (knows settings c (q ++ Own e ∷ [])).seen.version (state_is_spent core.state) version f.no_core))
                (λ (apart : d ≢ c). rw (quiet_seen answers settings d q (Own e) (other_quiet d (knows settings d q) e apart).looks, w.others d apart) (h.versions d))
                (cases_eq d c);
            used = λ d. ⊎_elim
                (λ (same : d ≡ c). w.used d ∙ rw (same, eq-eqb c c refl, me.slate, opens) refl)
                (λ (apart : d ≢ c). w.used d ∙ rw (ne_eqb d c apart) (others_used old q e h d apart))
                (cases_eq d c);
            book = bk ∙ sym (book_more answers settings q (Own e));
          },
        )

    -- nothing begins under a used number, nor once the book is closed
    pub datagram_late : (old : Server W R F) (q : List Step) (e : Event) (addr : SocketAddr) (o : List ℕ) (outs : List Output) → e.kind ≡ Datagram addr o
        → (old.book.closed ≡ true) ⊎ (contains nat_cmp old.used e.client ≡ true) → outs ≡ [] → ServesSteps answer answers settings q old
        → (outs ≡ step_gained answers settings q (Own e)) × ServesSteps answer answers settings (q ++ Own e ∷ []) old
    datagram_late old q e addr o outs kind late none h =
        let k : is_beginning e.kind ≡ true = ap is_beginning kind in
        by (contains nat_cmp old.used e.client) refl k late
      where
        by : (b : Bool) → contains nat_cmp old.used e.client ≡ b → is_beginning e.kind ≡ true → (old.book.closed ≡ true) ⊎ (contains nat_cmp old.used e.client ≡ true) → (outs ≡ step_gained answers settings q (Own e)) × ServesSteps answer answers settings (q ++ Own e ∷ []) old
        by true is k l = used_goes old q e outs k none is h
        by false is k l = closed_goes old old.book q e outs k none is (⊎_elim (λ (cl : old.book.closed ≡ true). cl) (λ (us : contains nat_cmp old.used e.client ≡ true). let z : old.book.closed ≡ true = cc in z) l) refl h

    -- a datagram before that makes an exchange
    pub datagram_goes : (old : Server W R F) (m : BTreeMap ℕ (ClientCore W R F)) (u : BTreeSet ℕ) (core : ClientCore W R F) (q : List Step) (e : Event) (addr : SocketAddr) (o : List ℕ) (outs : List Output) → e.kind ≡ Datagram addr o
        → old.book.closed ≡ false → contains nat_cmp old.used e.client ≡ false
        → ((s : Slate) → IsUnused s → s.conf ≡ conf_of old.book → (outs ≡ (datagram e.client addr e.at e.secs o s).1) × Stands answer answers core (datagram e.client addr e.at e.secs o s).0)
        → core.version ≡ old.book.version
        → EntersWith answer answers old.clients m old.used u core e.client
        → ServesSteps answer answers settings q old
        → (outs ≡ step_gained answers settings q (Own e)) × ServesSteps answer answers settings (q ++ Own e ∷ []) (record old { clients = m; used = u })
    datagram_goes old m u core q e addr o outs kind running free st version w h =
        let k : is_beginning e.kind ≡ true = ap is_beginning kind in
        let f = is_free old q e free h in
        let hl = membership answers settings q in
        let cl' : hl.book.closed ≡ false = ap (λ (x : State). x.closed) (sym h.book) ∙ running in
        let op = met_open answers settings q e k f.unused cl' in
        let me = meets answers settings q e k f.unused in
        let s = met answers settings q e in
        let is : rule answers e s ≡ datagram e.client addr e.at e.secs o s = begun answers e s addr o kind (unused_is s.phase me.unused) op.not_over in
        let joins : enters_at answers settings q hl (Own e) ≡ true = rw (kind, f.unused, cl') refl in
        begin_goes old m u old.book core q e outs k free joins (h.book ∙ rw kind refl)
        (ap (λ (r : Effect). is_unused r.0.phase) is)
        (subst (λ (r : Effect). (outs ≡ r.1) × Stands answer answers core r.0) (sym is) (st s op.unused (op.shown ∙ ap conf_of (sym h.book))))
        (version ∙ ap (λ (x : State). x.version) h.book ∙ sym op.version) w h

    pub offer_used : (old : Server W R F) (q : List Step) (e : Event) (addr : SocketAddr) (outs : List Output) → e.kind ≡ Offer addr → contains nat_cmp old.used e.client ≡ true → outs ≡ [] → ServesSteps answer answers settings q old
        → (outs ≡ step_gained answers settings q (Own e)) × ServesSteps answer answers settings (q ++ Own e ∷ []) old
    offer_used old q e addr outs kind used none h = used_goes old q e outs (ap is_beginning kind) none used h

    pub offer_closed : (old : Server W R F) (b : State) (q : List Step) (e : Event) (addr : SocketAddr) (outs : List Output) → e.kind ≡ Offer addr → contains nat_cmp old.used e.client ≡ false → old.book.closed ≡ true → b ≡ state_after old.book call.Admit → outs ≡ [] → ServesSteps answer answers settings q old
        → (outs ≡ step_gained answers settings q (Own e)) × ServesSteps answer answers settings (q ++ Own e ∷ []) (record old { book = b })
    offer_closed old b q e addr outs kind free closed is none h = closed_goes old b q e outs (ap is_beginning kind) none free closed (is ∙ rw closed refl) h

    -- an offer makes a connection, if a slot is free
    pub offer_goes : (old : Server W R F) (m : BTreeMap ℕ (ClientCore W R F)) (u : BTreeSet ℕ) (b look : State) (core : ClientCore W R F) (q : List Step) (e : Event) (addr : SocketAddr) (outs : List Output) → e.kind ≡ Offer addr
        → contains nat_cmp old.used e.client ≡ false → Admits old.book (Admitted look) → b ≡ state_after old.book call.Admit → outs ≡ []
        → ((s : Slate) → IsUnused s → s.conf ≡ conf_of look → Stands answer answers core (opened e.client addr e.at s))
        → core.version ≡ look.version
        → EntersWith answer answers old.clients m old.used u core e.client
        → ServesSteps answer answers settings q old
        → (outs ≡ step_gained answers settings q (Own e)) × ServesSteps answer answers settings (q ++ Own e ∷ []) (record { clients = m; used = u; book = b })
    offer_goes old m u b look core q e addr outs kind free admits after none st version w h =
        let k : is_beginning e.kind ≡ true = ap is_beginning kind in
        let f = is_free old q e free h in
        let hl = membership answers settings q in
        let cl' : hl.book.closed ≡ false = ap (λ (x : State). x.closed) (sym h.book) ∙ admits.0 in
        let room : has_slot hl.book ≡ true = ap has_slot (sym h.book) ∙ lt-ltb old.book.taken (limit_of old.book) admits.1 in
        let op = met_open answers settings q e k f.unused cl' in
        let me = meets answers settings q e k f.unused in
        let s = met answers settings q e in
        let is : rule answers e s ≡ (opened e.client addr e.at s, []) = offered answers e s addr kind (unused_is s.phase me.unused) op.not_over in
        let called : call_at answers settings q hl.members (Own e) ≡ call.Admit = rw (kind, f.unused) refl in
        let joins : enters_at answers settings q hl (Own e) ≡ true = rw (called, cl', room, kind) refl in
        begin_goes old m u b core q e outs k free joins (after ∙ ap (λ (x : State). state_after x call.Admit) h.book ∙ ap (state_after hl.book) (sym called))
        (ap (λ (r : Effect). is_unused r.0.phase) is)
        (subst (λ (r : Effect). (outs ≡ r.1) × Stands answer answers core r.0) (sym is) (none, st s op.unused (op.shown ∙ ap conf_of (sym h.book) ∙ sym (ap conf_of admits.2))))
        (version ∙ ap (λ (x : State). x.version) admits.2 ∙ ap (λ (x : State). x.version) h.book ∙ sym op.version) w h

    -- and else it is turned away
    pub offer_away : (old : Server W R F) (u : BTreeSet ℕ) (b : State) (taken limit : ℕ) (accepted : Bool) (q : List Step) (e : Event) (addr : SocketAddr) (outs : List Output) → e.kind ≡ Offer addr
        → contains nat_cmp old.used e.client ≡ false → Admits old.book (Full taken limit accepted) → b ≡ state_after old.book call.Admit
        → outs ≡ TurnedAway e.client accepted ∷ []
        → ((c : ℕ) → contains nat_cmp u c ≡ (if nat_eq c e.client then true else contains nat_cmp old.used c))
        → ServesSteps answer answers settings q old
        → (outs ≡ step_gained answers settings q (Own e)) × ServesSteps answer answers settings (q ++ Own e ∷ []) (record old { used = u; book = b })
    offer_away old u b taken limit accepted q e addr outs kind free admits after said hu h =
        let le : limit_of old.book ≤ old.book.taken = rw (← admits.3, ← admits.2) admits.1 in
        let full : has_slot old.book ≡ false = le-ltb old.book.taken (limit_of old.book) le in
        away_goes old u b q e addr outs kind free admits.0 full (after ∙ rw (admits.0, full) refl) (said ∙ ap (λ (x : Bool). TurnedAway e.client x ∷ []) admits.4) hu h
