-- A server whose clients look for themselves, after one step more that begins no client.
use Rattle.dns_session.specs.Serving.{Serving}
use Rattle.std.proofs.Common.{◌≡◌, ◌≢◌, ℕ, List, [], ◌∷◌, ◌++◌, Option, Some, None, Bool, true, false, refl, ap, sym, ◌∙◌, subst, ⊎_elim}
use Rattle.std.specs.Prelude.{nat_eq, if◌then◌else◌, not, ◌&&◌, ◌||◌, ◌==◌}
use Rattle.std.specs.List.{list_any}
use Rattle.std.specs.Ordering.{nat_cmp}
use Rattle.std.specs.BTreeMap.{BTreeMap, get}
use Rattle.std.specs.BTreeSet.{contains}
use Rattle.std.proofs.lemmas.Bool.{cases_eq, eq-eqb, ne_eqb}
use Rattle.std.proofs.lemmas.List.{append-nil}
use Rattle.std.proofs.Math.Bool.{and-false}
use Rattle.dns_core.proofs.KeptCore.{nothing_either_way, says, leaves, none_holds, none_stands, none_at}
use Rattle.dns_events.specs.declared.look.Look.{Look as State}
use Rattle.dns_admission.specs.declared.call.Call.TheVariants as call
use Rattle.dns_admission.specs.declared.call.Reply.TheVariants as reply
use Rattle.dns_admission.specs.Machine.{has_version, reply_of, state_after}
use Rattle.dns_service.specs.Answer.{Answer}
use Rattle.dns_events.specs.declared.event.Event.{Event}
use Rattle.dns_events.specs.declared.event.EventKind.{EventKind}
use Rattle.dns_events.specs.declared.event.EventKind.TheVariants.{Datagram, Offer, Release, Reconfigure, Shutdown}
use Rattle.dns_events.specs.declared.event.Output.{Output}
use Rattle.dns_events.specs.declared.event.Step.{Step}
use Rattle.dns_events.specs.declared.event.Step.TheVariants.{Own, Look}
use Rattle.dns_service.specs.declared.polled.PolledRequest.{PolledRequest}
use Rattle.dns_session.specs.After.{slate_after, sent_after}
use Rattle.dns_session.specs.News.{look_effect}
use Rattle.dns_session.specs.Rule.{rule, in_phase, closed_rule}
use Rattle.dns_session.specs.Slate.{Slate, Effect, Phase, Exchange, Open, Closed, conf_rule, with_conf, phase_is_closed}
use Rattle.dns_session.specs.Spent.{is_spent, is_spent_in}
use Rattle.dns_session.specs.Stands.{Stands, StandsIn}
use Rattle.dns_session.specs.declared.client.ClientCore.{ClientCore}
use Rattle.dns_session.specs.declared.client.State.{State as CoreState}
use Rattle.dns_session.specs.declared.client.State.TheVariants.{Exchange as Is_exchange, Open as Is_open, Flushing as Is_flushing, Closed as Is_closed, Lost as Is_lost}
use Rattle.dns_core.specs.Own.{is_wide}
use Rattle.dns_core.specs.Out.{is_unused, is_connection, holds_slot}
use Rattle.dns_core.specs.Trails.{is_open}
use Rattle.dns_core.specs.Books.{book_rule}
use Rattle.dns_core.specs.Serves.{Holds, IsAt, LooksOne, Steps, StepsKey}
use Rattle.dns_core.specs.Placed.{Knowledge, own_events, is_beginning, looks, puts, knows}
use Rattle.dns_core.specs.Outs.{Membership, placed_slate, placed_gain, membership, step_gained, call_for, call_at, enters, enters_at, refused_offer, stepping}
use Rattle.dns_core.specs.SplitServer.{ServesSteps}
use Rattle.dns_events.specs.declared.settings.Settings.{Settings}
use Rattle.dns_core.specs.declared.server.Server.{Server}
use Rattle.dns_core.proofs.Plain.{is_going, slot_kept}
use Rattle.dns_core.proofs.Slots.{exchange_freed}
use Rattle.dns_core.proofs.Spent.{spent_idle, spent_kept, open_unspent, idle_unspent}
use Rattle.dns_core.proofs.Wide.{wide_idle, open_is}
use Rattle.dns_core.proofs.Looked.{Enter, effect, heard_all, entry_wide}
use Rattle.dns_core.proofs.Placing.{knows_more, slate_more, gain_more, membership_more}
use Rattle.dns_core.proofs.Tied.{unused_kept, unused_list, wide_no_beginning, tied}

-- ---- whom a step concerns
pub record Quiet (c : ℕ) (k : Knowledge) (s : Step) : Type 0 where
  pub looks : looks c k.began s ≡ false
  pub own : own_events c s ≡ []

pub other_quiet : (c : ℕ) (k : Knowledge) (e : Event) → c ≢ e.client → Quiet c k (Own e)
other_quiet c k e ne =
    let n : (e.client == c) ≡ false = ne_eqb e.client c (λ h. ne (sym h)) in
    let a = and-false (is_beginning e.kind) in
    let b = and-false (not (is_wide e.kind)) in
    record { looks = rw (n, a) refl; own = rw (n, b) refl }

pub look_quiet : (c d at secs : ℕ) (k : Knowledge) → c ≢ d → Quiet c k (Look at secs d)
look_quiet c d at secs k ne = record { looks = ne_eqb d c (λ h. ne (sym h)); own = refl }

pub wide_quiet : (c : ℕ) (k : Knowledge) (e : Event) → is_wide e.kind ≡ true → Quiet c k (Own e)
wide_quiet c k e w = let n = wide_no_beginning e.kind w in record { looks = rw n refl; own = rw w refl }

-- an own event that is no look
pub own_puts : (k : Knowledge) (e : Event) → is_wide e.kind ≡ false → looks e.client k.began (Own e) ≡ false → puts e.client k (Own e) ≡ e ∷ []
own_puts k e w l = let s = eq-eqb e.client e.client refl in rw l (rw (w, s) refl)

no_look : (k : Knowledge) (e : Event) → is_beginning e.kind ≡ false → looks e.client k.began (Own e) ≡ false
no_look k e n = rw n refl

-- ---- the book
pub no_refusal : (k : EventKind) (b : State) (sl : Slate) (m : Bool) (c : ℕ) → is_beginning k ≡ false → refused_offer c (reply_of b (call_for sl m k)) ≡ []
no_refusal (Offer addr) b sl m c n = cc
no_refusal (Datagram addr o) b sl m c n = cc
no_refusal Release b sl m c n = (elim (m && (phase_is_closed sl.phase && not sl.freed)) as (λ z. refused_offer c (reply_of b (if z then call.Release else call.Look)) ≡ []) [ true ↦ refl | false ↦ refl ])
no_refusal (Reconfigure d t) b sl m c n = two b.closed (has_version b)
  where
    two : (z v : Bool) → refused_offer c (if z then reply.Version (Rattle.std.specs.Prelude.Ok b.version) else (if v then reply.Version (Rattle.std.specs.Prelude.Ok (Rattle.std.specs.Prelude.◌+◌ b.version 1)) else reply.Version (Rattle.std.specs.Prelude.Err Rattle.dns_events.specs.declared.error.Error.TheVariants.CommandCouldNotBeSent))) ≡ []
    two true v = refl
    two false true = refl
    two false false = refl
no_refusal _ b sl m c n = refl

pub no_enter : (k : EventKind) (sl : Slate) (b : State) (r : Rattle.dns_admission.specs.declared.call.Reply.Reply) → is_beginning k ≡ false → enters sl b r k ≡ false
no_enter (Offer addr) sl b r n = cc
no_enter (Datagram addr o) sl b r n = cc
no_enter _ sl b r n = refl

is_release : EventKind → Bool
is_release Release = true
is_release _ = false

call_is : (k : EventKind) (sl : Slate) (m : Bool) → is_wide k ≡ false → is_beginning k ≡ false → call_for sl m k ≡ (if is_release k && (m && (phase_is_closed sl.phase && not sl.freed)) then call.Release else call.Look)
unfolding is_release
call_is (Offer addr) sl m w n = cc
call_is (Datagram addr o) sl m w n = cc
call_is (Reconfigure d t) sl m w n = cc
call_is Shutdown sl m w n = cc
call_is Release sl m w n = refl
call_is _ sl m w n = refl

pub wide_call : (k : EventKind) (b : State) (sl : Slate) (m : Bool) → is_wide k ≡ true → state_after b (call_for sl m k) ≡ book_rule b k
wide_call (Reconfigure d t) b sl m w = refl
wide_call Shutdown b sl m w = refl
wide_call _ b sl m w = cc

given : (z : Bool) (b : State) → (if z then state_after b call.Release else b) ≡ state_after b (if z then call.Release else call.Look)
given true b = refl
given false b = refl

-- who hears nothing by a step
pub other_step : (c : ℕ) (k : Knowledge) (s : Step) → c ≢ stepping s → Quiet c k s
other_step c k (Own e) apart = other_quiet c k e apart
other_step c k (Look at secs d) apart = look_quiet c d at secs k apart

module _ (answers : Serving) (settings : Settings) where
  pub quiet_slate : (c : ℕ) (q : List Step) (s : Step) → Quiet c (knows settings c q) s → placed_slate answers settings c (q ++ s ∷ []) ≡ placed_slate answers settings c q
  quiet_slate c q s h = slate_more answers settings c q s ∙ rw (h.looks, h.own) refl

  pub quiet_seen : (c : ℕ) (q : List Step) (s : Step) → looks c (knows settings c q).began s ≡ false → (knows settings c (q ++ s ∷ [])).seen ≡ (knows settings c q).seen
  quiet_seen c q s h = ap (λ (k : Knowledge). k.seen) (knows_more settings c q s) ∙ rw h refl

  pub quiet_gain : (c : ℕ) (q : List Step) (s : Step) → Quiet c (knows settings c q) s → placed_gain answers settings c q s ≡ []
  quiet_gain c q s h = gain_more answers settings c q s ∙ rw (h.looks, h.own) refl

  pub own_slate : (q : List Step) (e : Event) → is_wide e.kind ≡ false → looks e.client (knows settings e.client q).began (Own e) ≡ false → placed_slate answers settings e.client (q ++ Own e ∷ []) ≡ (rule answers e (placed_slate answers settings e.client q)).0
  own_slate q e w l = slate_more answers settings e.client q (Own e) ∙ ap (slate_after answers (placed_slate answers settings e.client q)) (own_puts (knows settings e.client q) e w l)

  pub own_gain : (q : List Step) (e : Event) → is_wide e.kind ≡ false → looks e.client (knows settings e.client q).began (Own e) ≡ false → placed_gain answers settings e.client q (Own e) ≡ (rule answers e (placed_slate answers settings e.client q)).1
  own_gain q e w l = gain_more answers settings e.client q (Own e) ∙ ap (sent_after answers (placed_slate answers settings e.client q)) (own_puts (knows settings e.client q) e w l) ∙ append-nil (rule answers e (placed_slate answers settings e.client q)).1

  -- who doesn't enter leaves answer answers the members
  pub members_same : (q : List Step) (s : Step) → enters_at answers settings q (membership answers settings q) s ≡ false → (membership answers settings (q ++ s ∷ [])).members ≡ (membership answers settings q).members
  members_same q s h = ap (λ (x : Membership). x.members) (membership_more answers settings q s) ∙ rw h refl

  pub book_more : (q : List Step) (s : Step) → (membership answers settings (q ++ s ∷ [])).book ≡ state_after (membership answers settings q).book (call_at answers settings q (membership answers settings q).members s)
  book_more q s = ap (λ (x : Membership). x.book) (membership_more answers settings q s)

  pub own_enters : (q : List Step) (e : Event) → is_beginning e.kind ≡ false → enters_at answers settings q (membership answers settings q) (Own e) ≡ false
  own_enters q e n = no_enter e.kind (placed_slate answers settings e.client q) (membership answers settings q).book (reply_of (membership answers settings q).book (call_at answers settings q (membership answers settings q).members (Own e))) n

  -- what a look tells is what its client has not heard of
  pub look_tells : (q : List Step) (c : ℕ) → look_effect answers (knows settings c q).seen.version (membership answers settings q).book (placed_slate answers settings c q) ≡ effect answers (knows settings c q).unheard (placed_slate answers settings c q)
  look_tells q c =
      let t = tied answers settings c q in
      let k = knows settings c q in
      ap (λ (b : State). look_effect answers k.seen.version b (placed_slate answers settings c q)) t.book ∙ heard_all answers k.seen k.unheard (placed_slate answers settings c q) t.slate.enter t.slate.plain.conf t.slate.not_over

-- ---- slots: a release that finds a connection closed gives it back
held_open : (t : Slate) → (is_connection t.phase && not t.freed) ≡ true → t.freed ≡ false
held_open t h = by (is_connection t.phase) t.freed h
  where
    by : (a b : Bool) → (a && not b) ≡ true → b ≡ false
    by true true h = cc
    by true false h = refl
    by false b h = cc

spent_holds_none : (p : Phase) (s : Slate) → s.phase ≡ p → is_spent_in p s ≡ true → (phase_is_closed s.phase && not s.freed) ≡ false
spent_holds_none Exchange s p h = rw p refl
spent_holds_none Closed s p h = rw (p, h) refl
spent_holds_none _ s p h = cc

-- an open slate isn't freed
abbrev OpenHeld : Slate → Type 0
OpenHeld s = is_open s.phase ≡ true → s.freed ≡ false

module _ (answers : Serving) where
  going_freed : (e : Event) (s : Slate) → is_going s.phase ≡ true → holds_slot s ≡ true → (rule answers e s).0.freed ≡ false
  going_freed e s g held = held_open (rule answers e s).0 (slot_kept answers e s g ∙ held)

  closed_freed : (k : EventKind) (s : Slate) → s.freed ≡ false → (closed_rule k s).0.freed ≡ (is_release k && true)
  unfolding is_release
  closed_freed Release s f = refl
  closed_freed _ s f = f

  -- ---- a look
  spent_list : (es : List Event) (s : Slate) → is_spent s ≡ true → (sent_after answers s es ≡ []) × (is_spent (slate_after answers s es) ≡ true)
  spent_list [] s h = (refl, h)
  spent_list (e ∷ es) s h =
      let more = spent_list es (rule answers e s).0 (spent_kept answers e s h) in
      let one : (rule answers e s).1 ≡ [] = ap (λ (t : Effect). t.1) (spent_idle answers e s h) in
      (ap (λ os. os ++ sent_after answers (rule answers e s).0 es) one ∙ more.0, more.1)

  wide_held : (k : EventKind) (e : Event) (s : Slate) → e.kind ≡ k → is_wide k ≡ true → s.phase ≡ Open → s.freed ≡ false → OpenHeld (rule answers e s).0
  wide_held (Reconfigure d t) e s is w p f = λ o. rw (is, p) f
  wide_held Shutdown e s is w p f = λ o. wound s.queue refl
    where
      wound : (q : List (List ℕ)) → s.queue ≡ q → (rule answers e s).0.freed ≡ false
      wound [] z = rw (is, p, z) f
      wound (m ∷ ms) z = rw (is, p, z) f
  wide_held _ e s is w p f = cc

  unspent_case : (b : Bool) (e : Event) (s : Slate) → is_open s.phase ≡ b → is_wide e.kind ≡ true → OpenHeld s → is_spent s ≡ false → (is_spent (rule answers e s).0 ≡ false) × OpenHeld (rule answers e s).0
  unspent_case true e s o w h u =
      let p = open_is s.phase o in
      let t = with_conf (conf_rule e.kind s.conf) s in
      (ap (λ (x : Phase). is_spent (in_phase answers e x t).0) p ∙ open_unspent answers e e.kind t p (h o) w, wide_held e.kind e s refl w p (h o))
  unspent_case false e s o w h u =
      let idle = wide_idle answers e s w o in
      (idle_unspent answers e s w o u, λ x. let z : is_open s.phase ≡ true = sym (ap (λ (r : Effect). is_open r.0.phase) idle) ∙ x in cc)

  unspent_list : (b : State) (es : List Event) (s : Slate) → Enter b es → OpenHeld s → is_spent s ≡ false → is_spent (slate_after answers s es) ≡ false
  unspent_list b [] s n h u = u
  unspent_list b (e ∷ es) s n h u =
      let one = unspent_case (is_open s.phase) e s refl (entry_wide e.kind b n.0) h u in
      unspent_list (book_rule b e.kind) es (rule answers e s).0 n.1 one.1 one.0

module _ {W R F : Type 0} (answer : PolledRequest F R → ℕ → Answer) (answers : Serving) where
  freed_by : (n : ℕ) (state : CoreState W R F) (e : Event) (s : Slate) → StandsIn answer answers n state s → is_spent s ≡ false → (rule answers e s).0.freed ≡ (is_release e.kind && (phase_is_closed s.phase && not s.freed))
  freed_by n (Is_exchange kept) e s h u =
      let t = with_conf (conf_rule e.kind s.conf) s in
      (ap (λ (p : Phase). (in_phase answers e p t).0.freed) h.phase ∙ (exchange_freed answers e.kind t ∙ h.freed)) ∙ rw h.phase (sym (and-false (is_release e.kind)))
  freed_by n (Is_open c) e s h u = going_freed answers e s (ap is_going h.phase) (rw (h.phase, h.freed) refl) ∙ rw h.phase (sym (and-false (is_release e.kind)))
  freed_by n (Is_flushing c) e s h u = going_freed answers e s (ap is_going h.phase) (rw (h.phase, h.freed) refl) ∙ rw h.phase (sym (and-false (is_release e.kind)))
  freed_by n (Is_closed gone) e s h u =
      let t = with_conf (conf_rule e.kind s.conf) s in
      let free : s.freed ≡ false = ap (λ (p : Phase). is_spent_in p s) (sym h.phase) ∙ u in
      let at : rule answers e s ≡ closed_rule e.kind t = ap (λ (p : Phase). in_phase answers e p t) h.phase in
      ap (λ (x : Effect). x.0.freed) at ∙ (closed_freed answers e.kind t free ∙ rw (h.phase, free) refl)
  freed_by n Is_lost e s h u = absurd h

  freed_is : (o w : Option (ClientCore W R F)) (b : Bool) (e : Event) (outs : List Output) (finished freed : Bool) (s : Slate) → Steps answer answers o e outs finished freed w → Holds answer answers o b s
      → freed ≡ (is_release e.kind && (b && (phase_is_closed s.phase && not s.freed)))
  freed_is None w true e outs finished freed s k h = k.2 ∙ (sym (and-false (is_release e.kind)) ∙ ap (λ z. is_release e.kind && z) (sym (spent_holds_none s.phase s refl h)))
  freed_is None w false e outs finished freed s k h = k.2 ∙ sym (and-false (is_release e.kind))
  freed_is (Some core) None true e outs finished freed s k h = absurd k
  freed_is (Some core) (Some new) true e outs finished freed s k h =
      let f = k.0 s h.0 in
      (k.1 (rule answers e s).0 f.1).free ∙ freed_by core.client core.state e s h.0 h.1
  freed_is (Some core) w false e outs finished freed s k h = absurd h

  core_held : (n : ℕ) (state : CoreState W R F) (s : Slate) → StandsIn answer answers n state s → OpenHeld s
  core_held n (Is_exchange kept) s h = λ o. h.freed
  core_held n (Is_open c) s h = λ o. h.freed
  core_held n (Is_flushing c) s h = λ o. h.freed
  core_held n (Is_closed freed) s h = λ o. let z : Closed ≡ Open = sym h.phase ∙ open_is s.phase o in cc
  core_held n Is_lost s h = absurd h

  -- what is said and left, if the look tells what these entries tell
  look_says : (o w : Option (ClientCore W R F)) (m : Bool) (look : State) (b : State) (es : List Event) (outs : List Output) (s : Slate) (v : ℕ) → LooksOne answer answers o look outs w → Holds answer answers o m s → IsAt o v
      → Enter b es → look_effect answers v look s ≡ effect answers es s
      → (outs ≡ (if m then sent_after answers s es else [])) × Holds answer answers w m (slate_after answers s es) × IsAt w look.version
  look_says None w true look b es outs s v k h at n tells = let sp = spent_list answers es s h in (k.0 ∙ sym sp.0, none_holds answer answers w (slate_after answers s es) k.1 sp.1, none_at w look.version k.1)
  look_says None w false look b es outs s v k h at n tells = (k.0, none_stands answer answers w (slate_after answers s es) k.1, none_at w look.version k.1)
  look_says (Some core) None true look b es outs s v k h at n tells = absurd k
  look_says (Some core) (Some new) true look b es outs s v k h at n tells =
      let f = k.0 s h.0 in
      let P : Effect → Type 0 = λ r. (outs ≡ r.1) × Stands answer answers new r.0 in
      let g = subst P (ap (λ (x : ℕ). look_effect answers x look s) at ∙ tells) f in
      (g.0, (g.1, unspent_list answers b es s n (core_held core.client core.state s h.0) h.1), k.1)
  look_says (Some core) w false look b es outs s v k h at n tells = absurd h

  module _ (settings : Settings) where
    -- an event of one client by which it doesn't begin
    pub own_goes : (old : Server W R F) (m : BTreeMap ℕ (ClientCore W R F)) (b : State) (q : List Step) (e : Event) (outs : List Output) (freed : Bool)
        → is_wide e.kind ≡ false → is_beginning e.kind ≡ false
        → StepsKey answer answers (get nat_cmp old.clients e.client) e outs freed (get nat_cmp m e.client)
        → ((c : ℕ) → c ≢ e.client → get nat_cmp m c ≡ get nat_cmp old.clients c)
        → ((v : ℕ) → IsAt (get nat_cmp old.clients e.client) v → IsAt (get nat_cmp m e.client) v)
        → b ≡ (if freed then state_after old.book call.Release else old.book)
        → ServesSteps answer answers settings q old
        → (outs ≡ step_gained answers settings q (Own e)) × ServesSteps answer answers settings (q ++ Own e ∷ []) (record old { clients = m; book = b })
    own_goes old m b q e outs freed wd off k others versions bk h =
        let c = e.client in
        let sl = placed_slate answers settings c q in
        let kn = knows settings c q in
        let nl = no_look kn e off in
        let hl = membership answers settings q in
        let member = list_any (nat_eq c) hl.members in
        let ms = members_same answers settings q (Own e) (own_enters answers settings q e off) in
        let there : (d : ℕ) → (d ≢ c) → (placed_slate answers settings d (q ++ Own e ∷ []) ≡ placed_slate answers settings d q) = λ d apart. quiet_slate answers settings d q (Own e) (other_quiet d (knows settings d q) e apart) in
        let given_back : b ≡ state_after old.book (call_for sl member e.kind) =
        bk ∙ ap (λ z. if z then state_after old.book call.Release else old.book) (freed_is (get nat_cmp old.clients c) k.stepped member e outs k.finished freed sl k.steps (h.clients c))
        ∙ given (is_release e.kind && (member && (phase_is_closed sl.phase && not sl.freed))) old.book
        ∙ ap (state_after old.book) (sym (call_is e.kind sl member wd off)) in (
          says answer answers (get nat_cmp old.clients c) k.stepped member e outs k.finished freed sl k.steps (h.clients c)
              ∙ sym (rw (ms, own_gain answers settings q e wd nl, no_refusal e.kind hl.book sl member c off) refl),
          record {
            clients = λ d. ⊎_elim
                (λ (same : d ≡ c).
                let l = leaves answer answers (get nat_cmp old.clients c) k.stepped member e outs k.finished freed sl k.steps (h.clients c) in
                rw (same, ms, own_slate answers settings q e wd nl, k.left) l)
                (λ (apart : d ≢ c). rw (ms, there d apart, others d apart) (h.clients d))
                (cases_eq d c);
            versions = λ d. ⊎_elim
                (λ (same : d ≡ c). rw (same, quiet_seen answers settings c q (Own e) nl) (versions kn.seen.version (h.versions c)))
                (λ (apart : d ≢ c). rw (quiet_seen answers settings d q (Own e) (other_quiet d (knows settings d q) e apart).looks, others d apart) (h.versions d))
                (cases_eq d c);
            used = λ d. h.used d ∙ ap not (sym (⊎_elim
                (λ (same : d ≡ c). rw same (ap (λ (s : Slate). is_unused s.phase) (own_slate answers settings q e wd nl) ∙ unused_kept answers e sl off))
                (λ (apart : d ≢ c). ap (λ (s : Slate). is_unused s.phase) (there d apart))
                (cases_eq d c)));
            book = given_back ∙ ap (λ x. state_after x (call_for sl member e.kind)) h.book ∙ sym (book_more answers settings q (Own e));
          },
        )

    -- an event that all hear changes the book alone
    pub wide_goes : (old : Server W R F) (b : State) (q : List Step) (e : Event) → is_wide e.kind ≡ true → b ≡ book_rule old.book e.kind → ServesSteps answer answers settings q old
        → ([] ≡ step_gained answers settings q (Own e)) × ServesSteps answer answers settings (q ++ Own e ∷ []) (record old { book = b })
    wide_goes old b q e wd bk h =
        let qu : (c : ℕ) → Quiet c (knows settings c q) (Own e) = λ c. wide_quiet c (knows settings c q) e wd in
        let hl = membership answers settings q in
        let off = wide_no_beginning e.kind wd in
        let sl = placed_slate answers settings e.client q in
        let member = list_any (nat_eq e.client) hl.members in
        let ms = members_same answers settings q (Own e) (own_enters answers settings q e off) in (
          nothing_either_way (list_any (nat_eq e.client) (membership answers settings (q ++ Own e ∷ [])).members) (placed_gain answers settings e.client q (Own e)) (quiet_gain answers settings e.client q (Own e) (qu e.client))
              ∙ sym (rw (no_refusal e.kind hl.book sl member e.client off) refl),
          record {
            clients = λ d. rw (ms, quiet_slate answers settings d q (Own e) (qu d)) (h.clients d);
            versions = λ d. rw (quiet_seen answers settings d q (Own e) (qu d).looks) (h.versions d);
            used = λ d. h.used d ∙ ap (λ (s : Slate). not (is_unused s.phase)) (sym (quiet_slate answers settings d q (Own e) (qu d)));
            book = bk ∙ (ap (λ x. book_rule x e.kind) h.book ∙ sym (book_more answers settings q (Own e) ∙ wide_call e.kind hl.book sl member wd));
          },
        )

    pub look_goes : (old : Server W R F) (m : BTreeMap ℕ (ClientCore W R F)) (q : List Step) (at secs c : ℕ) (outs : List Output)
        → LooksOne answer answers (get nat_cmp old.clients c) old.book outs (get nat_cmp m c)
        → ((d : ℕ) → d ≢ c → get nat_cmp m d ≡ get nat_cmp old.clients d)
        → ServesSteps answer answers settings q old
        → (outs ≡ step_gained answers settings q (Look at secs c)) × ServesSteps answer answers settings (q ++ Look at secs c ∷ []) (record old { clients = m })
    look_goes old m q at secs c outs k others h =
        let st = Look at secs c in
        let sl = placed_slate answers settings c q in
        let kn = knows settings c q in
        let hl = membership answers settings q in
        let member = list_any (nat_eq c) hl.members in
        let t = tied answers settings c q in
        let self = eq-eqb c c refl in
        let ms = members_same answers settings q st refl in
        let pt : puts c kn st ≡ kn.unheard = rw self (append-nil kn.unheard) in
        let tells : look_effect answers kn.seen.version old.book sl ≡ effect answers kn.unheard sl = rw h.book (look_tells answers settings q c) in
        let go = look_says (get nat_cmp old.clients c) (get nat_cmp m c) member old.book kn.seen kn.unheard outs sl kn.seen.version k (h.clients c) (h.versions c) t.slate.enter tells in
        let here : placed_slate answers settings c (q ++ st ∷ []) ≡ slate_after answers sl kn.unheard = slate_more answers settings c q st ∙ ap (slate_after answers sl) pt in
        let seen : (knows settings c (q ++ st ∷ [])).seen.version ≡ old.book.version = ap (λ (x : Knowledge). x.seen.version) (knows_more settings c q st) ∙ rw self (ap (λ (b : State). b.version) (sym t.book) ∙ ap (λ (b : State). b.version) (sym h.book)) in
        let there : (d : ℕ) → (d ≢ c) → (placed_slate answers settings d (q ++ st ∷ []) ≡ placed_slate answers settings d q) = λ d apart. quiet_slate answers settings d q st (look_quiet d c at secs (knows settings d q) apart) in (
          go.0 ∙ ap (λ os. if member then os else []) (sym (gain_more answers settings c q st ∙ ap (sent_after answers sl) pt))
              ∙ ap (λ ns. if list_any (nat_eq c) ns then placed_gain answers settings c q st else []) (sym ms),
          record {
            clients = λ d. ⊎_elim
                (λ (same : d ≡ c). rw (same, ms, here) go.1)
                (λ (apart : d ≢ c). rw (ms, there d apart, others d apart) (h.clients d))
                (cases_eq d c);
            versions = λ d. ⊎_elim
                (λ (same : d ≡ c). rw (same, seen) go.2)
                (λ (apart : d ≢ c). rw (quiet_seen answers settings d q st (look_quiet d c at secs (knows settings d q) apart).looks, others d apart) (h.versions d))
                (cases_eq d c);
            used = λ d. h.used d ∙ ap not (sym (⊎_elim
                (λ (same : d ≡ c). rw same (ap (λ (s : Slate). is_unused s.phase) here ∙ unused_list answers kn.seen kn.unheard sl t.slate.enter))
                (λ (apart : d ≢ c). ap (λ (s : Slate). is_unused s.phase) (there d apart))
                (cases_eq d c)));
            book = h.book ∙ sym (book_more answers settings q st);
          },
        )
