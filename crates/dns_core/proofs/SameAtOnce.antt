-- Steps by which all heard of the same as by some events: an event of one client more does the same.
use Rattle.dns_session.specs.Serving.{Serving}
use Rattle.std.proofs.Common.{◌≡◌, ◌≢◌, ℕ, ◌≤◌, List, [], ◌∷◌, ◌++◌, length, Bool, true, false, refl, ap, sym, ◌∙◌, ⊎_elim}
use Rattle.std.specs.Prelude.{nat_eq, nat_lt, filter, if◌then◌else◌}
use Rattle.std.specs.List.{list_any}
use Rattle.std.proofs.lemmas.Bool.{cases_eq}
use Rattle.std.proofs.Math.Bool.{and-false}
use Rattle.dns_core.proofs.OutLemmas.{one_longer}
use Rattle.dns_name.specs.declared.address.SocketAddr.{SocketAddr}
use Rattle.dns_events.specs.declared.look.Look.{Look as State}
use Rattle.dns_admission.specs.Machine.{has_slot, reply_of}
use Rattle.dns_events.specs.declared.event.Event.{Event}
use Rattle.dns_events.specs.declared.event.EventKind.{EventKind}
use Rattle.dns_events.specs.declared.event.EventKind.TheVariants.{Datagram, Offer}
use Rattle.dns_events.specs.declared.event.Output.TheVariants.{TurnedAway}
use Rattle.dns_events.specs.declared.event.Step.{Step}
use Rattle.dns_events.specs.declared.event.Step.TheVariants.{Own}
use Rattle.dns_session.specs.Rule.{rule}
use Rattle.dns_session.specs.Slate.{Slate, Effect, Conf, conf_of, fresh}
use Rattle.dns_core.specs.Own.{is_wide}
use Rattle.dns_core.specs.Sent.{conf, slate}
use Rattle.dns_core.specs.Out.{gain, gained, holds_slot, is_new, is_unused, joins, has_room, members, put, taken}
use Rattle.dns_core.specs.Books.{book_rule}
use Rattle.dns_core.specs.Placed.{Knowledge, begins, is_beginning, knows, looks}
use Rattle.dns_core.specs.Outs.{Membership, placed_slate, placed_gain, membership, step_gained, call_at, enters_at, refused_offer}
use Rattle.dns_core.specs.StepsByClient.{slots_held}
use Rattle.dns_events.specs.declared.settings.Settings.{Settings}
use Rattle.dns_core.proofs.Counted.{filter_same, put_there}
use Rattle.dns_core.proofs.Gained.{conf_kept, members_away, members_joined, members_kept, slate_other, slate_same, used_not_new, unused_kept, unused_not_new}
use Rattle.dns_core.proofs.Heard.{gained_away, gained_joined, gained_own}
use Rattle.dns_core.proofs.Plain.{plain}
use Rattle.dns_core.proofs.Placing.{membership_more, knows_more}
use Rattle.dns_core.proofs.Tied.{opens_kind, tied, untaken, untaken_kind}
use Rattle.dns_core.proofs.Stepping.{book_more, members_same, no_refusal, other_quiet, own_enters, own_gain, own_slate, quiet_slate}
use Rattle.dns_core.proofs.StepBegins.{begin_late, begin_narrow, closed_refuses}
use Rattle.dns_core.proofs.StepsByClient.{joined, joined_other, opens, owns, used_stays}
use Rattle.dns_core.proofs.StepsAlike.{entered, member_used, unused_after}
use Rattle.dns_core.proofs.StepsNothing.{begun_knows, other_knows}
use Rattle.dns_core.proofs.StepsTurned.{known}
use Rattle.dns_core.proofs.StepsHeld.{book_counts}

module _ (answers : Serving) (settings : Settings) where
  -- after the events q, which all hear at once, and the steps p, by which they heard of the same, all is the same
  pub record Same (q : List Event) (p : List Step) : Type 0 where
    pub same_members : (membership answers settings p).members ≡ members answers settings q
    pub shown : conf_of (membership answers settings p).book ≡ conf settings q
    pub few : (membership answers settings p).book.version ≤ length q
    pub unused : (c : ℕ) → is_unused (placed_slate answers settings c p).phase ≡ is_unused (slate answers settings c q).phase
    pub slates : (c : ℕ) → joined answers settings c p ≡ true → placed_slate answers settings c p ≡ slate answers settings c q
    pub heard_all : (c : ℕ) → joined answers settings c p ≡ true → (knows settings c p).unheard ≡ []

  -- ---- an event of one client: the book shows what it showed
  narrow_book : (q : List Step) (e : Event) → is_wide e.kind ≡ false → untaken (membership answers settings (q ++ Own e ∷ [])).book ≡ untaken (membership answers settings q).book
  narrow_book q e w =
      let b = (membership answers settings q).book in
      ap untaken (book_more answers settings q (Own e)) ∙ untaken_kind e.kind b (placed_slate answers settings e.client q) (joined answers settings e.client q) ∙ narrow_rule e.kind (untaken b) w
    where
      narrow_rule : (k : EventKind) (b : State) → is_wide k ≡ false → book_rule b k ≡ b
      narrow_rule (Rattle.dns_events.specs.declared.event.EventKind.TheVariants.Reconfigure d t) b w = cc
      narrow_rule Rattle.dns_events.specs.declared.event.EventKind.TheVariants.Shutdown b w = cc
      narrow_rule _ b w = refl

  -- by which neither here nor there anybody begins
  record Still (q : List Event) (p : List Step) (e : Event) : Type 0 where
    new : is_new answers settings q e ≡ false
    enters : enters_at answers settings p (membership answers settings p) (Own e) ≡ false
    says : refused_offer e.client (reply_of (membership answers settings p).book (call_at answers settings p (membership answers settings p).members (Own e))) ≡ []
    unused : is_unused (placed_slate answers settings e.client (p ++ Own e ∷ [])).phase ≡ is_unused (placed_slate answers settings e.client p).phase

  no_look : (p : List Step) (e : Event) → joined answers settings e.client p ≡ true → looks e.client (knows settings e.client p).began (Own e) ≡ false
  no_look p e m = let b = (tied answers settings e.client p).slate.begun (member_used answers settings e.client p m) in rw b (and-false (begins e.client (Own e)))

  still_gained : (b : Bool) (q : List Event) (p : List Step) (e : Event) → is_wide e.kind ≡ false → Same q p → Still q p e → joined answers settings e.client p ≡ b → step_gained answers settings p (Own e) ≡ gained answers settings q e
  still_gained true q p e w h s m =
      let c = e.client in
      let now : joined answers settings c (p ++ Own e ∷ []) ≡ true = ap (list_any (nat_eq c)) (members_same answers settings p (Own e) s.enters) ∙ m in
      let there : list_any (nat_eq c) (members answers settings q) ≡ true = ap (list_any (nat_eq c)) (sym h.same_members) ∙ m in
      ap (λ b. if b then placed_gain answers settings c p (Own e) else refused_offer c (reply_of (membership answers settings p).book (call_at answers settings p (membership answers settings p).members (Own e)))) now
      ∙ own_gain answers settings p e w (no_look p e m) ∙ ap (λ x. (rule answers e x).1) (h.slates c m)
      ∙ sym (gained_own answers settings q e w s.new ∙ ap (λ b. if b then gain answers settings c q e else []) there)
  still_gained false q p e w h s m =
      let c = e.client in
      let now : joined answers settings c (p ++ Own e ∷ []) ≡ false = ap (list_any (nat_eq c)) (members_same answers settings p (Own e) s.enters) ∙ m in
      let there : list_any (nat_eq c) (members answers settings q) ≡ false = ap (list_any (nat_eq c)) (sym h.same_members) ∙ m in
      ap (λ b. if b then placed_gain answers settings c p (Own e) else refused_offer c (reply_of (membership answers settings p).book (call_at answers settings p (membership answers settings p).members (Own e)))) now
      ∙ s.says ∙ sym (gained_own answers settings q e w s.new ∙ ap (λ b. if b then gain answers settings c q e else []) there)

  still_same : (q : List Event) (p : List Step) (e : Event) → is_wide e.kind ≡ false → Same q p → Still q p e → Same (q ++ e ∷ []) (p ++ Own e ∷ [])
  still_same q p e w h s =
      let c = e.client in
      let ms = members_same answers settings p (Own e) s.enters in
      let was : (d : ℕ) → joined answers settings d (p ++ Own e ∷ []) ≡ joined answers settings d p = λ d. ap (list_any (nat_eq d)) ms in
      record {
        same_members = ms ∙ h.same_members ∙ sym (members_kept answers settings q e s.new);
        shown = ap conf_of (narrow_book p e w) ∙ h.shown ∙ sym (conf_kept settings q e w);
        few = one_longer q e (membership answers settings (p ++ Own e ∷ [])).book.version (rw (ap (λ (b : State). b.version) (narrow_book p e w)) h.few);
        unused = λ d. ⊎_elim
            (λ (i : d ≡ c). rw i (s.unused ∙ h.unused c ∙ sym (unused_kept answers settings q e s.new)))
            (λ (apart : d ≢ c). ap (λ (x : Slate). is_unused x.phase) (quiet_slate answers settings d p (Own e) (other_quiet d (knows settings d p) e apart)) ∙ h.unused d ∙ ap (λ (x : Slate). is_unused x.phase) (sym (slate_other answers settings d q e w apart)))
            (cases_eq d c);
        slates = λ d there. ⊎_elim
            (λ (i : d ≡ c). let m : joined answers settings c p ≡ true = rw i at (sym (was d) ∙ there) in rw i (own_slate answers settings p e w (no_look p e m) ∙ ap (λ x. (rule answers e x).0) (h.slates c m) ∙ sym (slate_same answers settings q e)))
            (λ (apart : d ≢ c). quiet_slate answers settings d p (Own e) (other_quiet d (knows settings d p) e apart) ∙ h.slates d (sym (was d) ∙ there) ∙ sym (slate_other answers settings d q e w apart))
            (cases_eq d c);
        heard_all = λ d there. ap (λ (k : Knowledge). k.unheard) (kept d (sym (was d) ∙ there)) ∙ h.heard_all d (sym (was d) ∙ there);
      }
    where
      kept : (d : ℕ) → joined answers settings d p ≡ true → knows settings d (p ++ Own e ∷ []) ≡ knows settings d p
      kept d m = knows_more settings d p (Own e) ∙ begun_knows answers settings d (knows settings d p) e w ((tied answers settings d p).slate.begun (member_used answers settings d p m))

  used_still : (q : List Event) (p : List Step) (e : Event) → Same q p → is_unused (slate answers settings e.client q).phase ≡ false → Still q p e
  used_still q p e h u =
      let u' : is_unused (placed_slate answers settings e.client p).phase ≡ false = h.unused e.client ∙ u in
      let k = known answers settings p (Own e) u' in
      record { new = used_not_new answers settings q e u; enters = k.enters; says = k.says; unused = used_stays answers settings e.client p (Own e) u' ∙ sym u' }

  -- an unused client that doesn't begin
  idle_still : (q : List Event) (p : List Step) (e : Event) → is_beginning e.kind ≡ false → Same q p → is_unused (slate answers settings e.client q).phase ≡ true → Still q p e
  idle_still q p e k h u =
      let u' : is_unused (placed_slate answers settings e.client p).phase ≡ true = h.unused e.client ∙ u in
      record {
        new = unused_not_new answers settings q e (ap (λ (s : Slate). is_unused s.phase) (slate_same answers settings q e) ∙ Rattle.dns_core.proofs.Tied.unused_kept answers e (slate answers settings e.client q) k ∙ u);
        enters = own_enters answers settings p e k;
        says = no_refusal e.kind (membership answers settings p).book (placed_slate answers settings e.client p) (joined answers settings e.client p) e.client k;
        unused = unused_after answers settings p e u' ∙ rw k (sym u');
      }

  -- one that comes late
  late_still : (q : List Event) (p : List Step) (e : Event) → is_beginning e.kind ≡ true → (membership answers settings p).book.closed ≡ true → Same q p → is_unused (slate answers settings e.client q).phase ≡ true → Still q p e
  late_still q p e k cl h u =
      let u' : is_unused (placed_slate answers settings e.client p).phase ≡ true = h.unused e.client ∙ u in
      let sl = slate answers settings e.client q in
      let r = closed_refuses e.kind (placed_slate answers settings e.client p) (joined answers settings e.client p) (membership answers settings p).book k u' cl in
      let over : sl.conf.over ≡ true = ap (λ (x : Conf). x.over) ((plain answers settings e.client q).conf ∙ sym h.shown) ∙ cl in
      record {
        new = unused_not_new answers settings q e (ap (λ (s : Slate). is_unused s.phase) (slate_same answers settings q e ∙ ap (λ (t : Effect). t.0) (begin_late answers e.kind e sl refl k over)) ∙ u);
        enters = r.enters;
        says = r.says e.client;
        unused = unused_after answers settings p e u' ∙ rw (k, cl) (sym u');
      }

  -- ---- one that begins
  record Begins (q : List Event) (p : List Step) (e : Event) : Type 0 where
    beginning : is_beginning e.kind ≡ true
    unused : is_unused (slate answers settings e.client q).phase ≡ true
    unused' : is_unused (placed_slate answers settings e.client p).phase ≡ true
    open_book : (membership answers settings p).book.closed ≡ false
    -- the slate, of which nothing came
    was : slate answers settings e.client q ≡ fresh (conf_of (membership answers settings p).book)

  begins_open : (q : List Event) (p : List Step) (e : Event) → is_beginning e.kind ≡ true → (membership answers settings p).book.closed ≡ false → Same q p → is_unused (slate answers settings e.client q).phase ≡ true → Begins q p e
  begins_open q p e k cl h u = record {
    beginning = k;
    unused = u;
    unused' = h.unused e.client ∙ u;
    open_book = cl;
    was = (plain answers settings e.client q).unused u ∙ ap fresh (sym h.shown);
  }

  -- the slot that it finds, if it takes one
  slots_same : (q : List Event) (p : List Step) → Same q p → has_room answers settings q (members answers settings q) ≡ has_slot (membership answers settings p).book
  unfolding has_room taken slots_held
  slots_same q p h =
      let room : ℕ → Conf → Bool = λ n k. nat_lt n k.stream.max_concurrent_connections in
      let count : length (filter (λ c. holds_slot (placed_slate answers settings c p)) (membership answers settings p).members) ≡ length (filter (λ c. holds_slot (slate answers settings c q)) (members answers settings q)) =
      ap length (filter_same (λ c. holds_slot (placed_slate answers settings c p)) (λ c. holds_slot (slate answers settings c q)) (membership answers settings p).members (λ c there. ap holds_slot (h.slates c there)))
      ∙ ap (λ ms. length (filter (λ c. holds_slot (slate answers settings c q)) ms)) h.same_members in
      ap (λ n. room n (conf settings q)) (sym (book_counts answers settings p ∙ count)) ∙ ap (room (membership answers settings p).book.taken) (sym h.shown)

  -- it joins here and there, or is turned away
  record Comes (q : List Event) (p : List Step) (e : Event) : Type 0 where
    joins_both : Bool
    joins : joins answers settings q (members answers settings q) e ≡ joins_both
    enters : enters_at answers settings p (membership answers settings p) (Own e) ≡ joins_both
    away : joins_both ≡ false → refused_offer e.client (reply_of (membership answers settings p).book (call_at answers settings p (membership answers settings p).members (Own e))) ≡ TurnedAway e.client (conf settings q).stream.accept_connections_at_max ∷ []

  after_is : (q : List Event) (p : List Step) (e : Event) → Begins q p e → slate answers settings e.client (q ++ e ∷ []) ≡ (rule answers e (fresh (conf_of (membership answers settings p).book))).0
  after_is q p e b = slate_same answers settings q e ∙ ap (λ s. (rule answers e s).0) b.was

  is_used : (q : List Event) (p : List Step) (e : Event) → Begins q p e → is_unused (slate answers settings e.client (q ++ e ∷ [])).phase ≡ false
  is_used q p e b = ap (λ (s : Slate). is_unused s.phase) (after_is q p e b) ∙ opens_kind answers e.kind e (fresh (conf_of (membership answers settings p).book)) refl b.beginning refl b.open_book

  new_here : (q : List Event) (p : List Step) (e : Event) → Begins q p e → is_new answers settings q e ≡ true
  unfolding is_new
  new_here q p e b = let u = is_used q p e b in rw (b.unused, u) refl

  comes_offer : (r : Bool) (q : List Event) (p : List Step) (e : Event) (addr : SocketAddr) → e.kind ≡ Offer addr → Same q p → Begins q p e → has_slot (membership answers settings p).book ≡ r → Comes q p e
  comes_offer r q p e addr is h b f =
      let held : holds_slot (slate answers settings e.client (q ++ e ∷ [])) ≡ true = ap holds_slot (after_is q p e b) ∙ rw (is, b.open_book) refl in
      let room : has_room answers settings q (members answers settings q) ≡ r = slots_same q p h ∙ f in
      record { joins_both = r; joins = rw (new_here q p e b, held, room) refl; enters = by r f; away = λ n. no r f n }
    where
      by : (r : Bool) → has_slot (membership answers settings p).book ≡ r → enters_at answers settings p (membership answers settings p) (Own e) ≡ r
      by true f = rw (is, b.unused', b.open_book, f) refl
      by false f = rw (is, b.unused', b.open_book, f) refl

      no : (r : Bool) → has_slot (membership answers settings p).book ≡ r → r ≡ false → refused_offer e.client (reply_of (membership answers settings p).book (call_at answers settings p (membership answers settings p).members (Own e))) ≡ TurnedAway e.client (conf settings q).stream.accept_connections_at_max ∷ []
      no true f n = cc
      no false f n = rw (is, b.unused', b.open_book, f) (ap (λ (k : Conf). TurnedAway e.client k.stream.accept_connections_at_max ∷ []) h.shown)

  comes_kind : (k : EventKind) (q : List Event) (p : List Step) (e : Event) → e.kind ≡ k → is_beginning k ≡ true → Same q p → Begins q p e → Comes q p e
  comes_kind (Offer addr) q p e is k h b = comes_offer (has_slot (membership answers settings p).book) q p e addr is h b refl
  comes_kind (Datagram addr o) q p e is k h b =
      let held : holds_slot (slate answers settings e.client (q ++ e ∷ [])) ≡ false = ap holds_slot (after_is q p e b) ∙ rw (is, b.open_book) refl in
      record { joins_both = true; joins = rw (new_here q p e b, held) refl; enters = rw (is, b.unused', b.open_book) refl; away = λ n. cc }
  comes_kind _ q p e is k h b = cc

  begins_gained : (j : Bool) (q : List Event) (p : List Step) (e : Event) → Same q p → (b : Begins q p e) → (k : Comes q p e) → k.joins_both ≡ j → step_gained answers settings p (Own e) ≡ gained answers settings q e
  begins_gained true q p e h b k is =
      let c = e.client in
      let a = entered answers settings p e (record { unused = b.unused'; open_book = b.open_book; beginning = b.beginning }) in
      let ms : (membership answers settings (p ++ Own e ∷ [])).members ≡ put c (membership answers settings p).members = ap (λ (x : Membership). x.members) (membership_more answers settings p (Own e)) ∙ rw (k.enters, is) refl in
      let now : joined answers settings c (p ++ Own e ∷ []) ≡ true = ap (list_any (nat_eq c)) ms ∙ put_there c (membership answers settings p).members in
      ap (λ x. if x then placed_gain answers settings c p (Own e) else refused_offer c (reply_of (membership answers settings p).book (call_at answers settings p (membership answers settings p).members (Own e)))) now
      ∙ a.gain ∙ ap (λ s. (rule answers e s).1) (sym b.was) ∙ sym (gained_joined answers settings q e (begin_narrow e.kind b.beginning) (k.joins ∙ is))
  begins_gained false q p e h b k is =
      let c = e.client in
      let ms = members_same answers settings p (Own e) (k.enters ∙ is) in
      let now : joined answers settings c (p ++ Own e ∷ []) ≡ false = ap (list_any (nat_eq c)) ms ∙ ((owns answers settings c p).unused b.unused').1 in
      ap (λ x. if x then placed_gain answers settings c p (Own e) else refused_offer c (reply_of (membership answers settings p).book (call_at answers settings p (membership answers settings p).members (Own e)))) now
      ∙ k.away is ∙ sym (gained_away answers settings q e (begin_narrow e.kind b.beginning) (new_here q p e b) (k.joins ∙ is))

  members_case : (j : Bool) (q : List Event) (p : List Step) (e : Event) → Same q p → (k : Comes q p e) → k.joins_both ≡ j → (membership answers settings (p ++ Own e ∷ [])).members ≡ members answers settings (q ++ e ∷ [])
  members_case true q p e h k is = ap (λ (x : Membership). x.members) (membership_more answers settings p (Own e)) ∙ rw (k.enters, is) (ap (put e.client) h.same_members) ∙ sym (members_joined answers settings q e (k.joins ∙ is))
  members_case false q p e h k is = members_same answers settings p (Own e) (k.enters ∙ is) ∙ h.same_members ∙ sym (members_away answers settings q e (k.joins ∙ is))

  begins_same : (q : List Event) (p : List Step) (e : Event) → Same q p → (b : Begins q p e) → Comes q p e → Same (q ++ e ∷ []) (p ++ Own e ∷ [])
  begins_same q p e h b k =
      let c = e.client in
      let w = begin_narrow e.kind b.beginning in
      let a = entered answers settings p e (record { unused = b.unused'; open_book = b.open_book; beginning = b.beginning }) in
      let was : (d : ℕ) → (d ≢ c) → (joined answers settings d (p ++ Own e ∷ []) ≡ joined answers settings d p) = λ d apart. joined_other answers settings d p (Own e) apart in
      record {
        same_members = members_case k.joins_both q p e h k refl;
        shown = ap conf_of (narrow_book p e w) ∙ h.shown ∙ sym (conf_kept settings q e w);
        few = one_longer q e (membership answers settings (p ++ Own e ∷ [])).book.version (rw (ap (λ (x : State). x.version) (narrow_book p e w)) h.few);
        unused = λ d. ⊎_elim
            (λ (i : d ≡ c). rw i (opens answers settings p e b.beginning b.unused' b.open_book ∙ sym (is_used q p e b)))
            (λ (apart : d ≢ c). ap (λ (x : Slate). is_unused x.phase) (quiet_slate answers settings d p (Own e) (other_quiet d (knows settings d p) e apart)) ∙ h.unused d ∙ ap (λ (x : Slate). is_unused x.phase) (sym (slate_other answers settings d q e w apart)))
            (cases_eq d c);
        slates = λ d there. ⊎_elim
            (λ (i : d ≡ c). rw i (a.slate ∙ sym (after_is q p e b)))
            (λ (apart : d ≢ c). quiet_slate answers settings d p (Own e) (other_quiet d (knows settings d p) e apart) ∙ h.slates d (sym (was d apart) ∙ there) ∙ sym (slate_other answers settings d q e w apart))
            (cases_eq d c);
        heard_all = λ d there. ⊎_elim
            (λ (i : d ≡ c). rw i (ap (λ (x : Knowledge). x.unheard) a.knows))
            (λ (apart : d ≢ c). ap (λ (x : Knowledge). x.unheard) (knows_more settings d p (Own e) ∙ other_knows answers settings d (knows settings d p) e w apart) ∙ h.heard_all d (sym (was d apart) ∙ there))
            (cases_eq d c);
      }

  -- what becomes of one event of one client
  pub record Goes (q : List Event) (p : List Step) (e : Event) : Type 0 where
    pub gained : step_gained answers settings p (Own e) ≡ gained answers settings q e
    pub same : Same (q ++ e ∷ []) (p ++ Own e ∷ [])

  goes_still : (q : List Event) (p : List Step) (e : Event) → is_wide e.kind ≡ false → Same q p → Still q p e → Goes q p e
  goes_still q p e w h s = record { gained = still_gained (joined answers settings e.client p) q p e w h s refl; same = still_same q p e w h s }

  goes_open : (z : Bool) (q : List Event) (p : List Step) (e : Event) → is_wide e.kind ≡ false → is_beginning e.kind ≡ true → Same q p → is_unused (slate answers settings e.client q).phase ≡ true → (membership answers settings p).book.closed ≡ z → Goes q p e
  goes_open true q p e w k h u cl = goes_still q p e w h (late_still q p e k cl h u)
  goes_open false q p e w k h u cl =
      let b = begins_open q p e k cl h u in
      let c = comes_kind e.kind q p e refl k h b in
      record { gained = begins_gained c.joins_both q p e h b c refl; same = begins_same q p e h b c }

  goes_unused : (k : Bool) (q : List Event) (p : List Step) (e : Event) → is_wide e.kind ≡ false → Same q p → is_unused (slate answers settings e.client q).phase ≡ true → is_beginning e.kind ≡ k → Goes q p e
  goes_unused true q p e w h u k = goes_open (membership answers settings p).book.closed q p e w k h u refl
  goes_unused false q p e w h u k = goes_still q p e w h (idle_still q p e k h u)

  goes_by : (u : Bool) (q : List Event) (p : List Step) (e : Event) → is_wide e.kind ≡ false → Same q p → is_unused (slate answers settings e.client q).phase ≡ u → Goes q p e
  goes_by true q p e w h u = goes_unused (is_beginning e.kind) q p e w h u refl
  goes_by false q p e w h u = goes_still q p e w h (used_still q p e h u)

  pub goes : (q : List Event) (p : List Step) (e : Event) → is_wide e.kind ≡ false → Same q p → Goes q p e
  goes q p e w h = goes_by (is_unused (slate answers settings e.client q).phase) q p e w h refl
