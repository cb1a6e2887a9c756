-- What ties the book, what a client knows of it, and its slate, after any steps.
use Rattle.dns_session.specs.Serving.{Serving}
use Rattle.std.proofs.Common.{◌≡◌, ℕ, List, [], ◌∷◌, ◌++◌, Bool, true, false, refl, ap, sym, ◌∙◌}
use Rattle.std.specs.Prelude.{if◌then◌else◌, ◌==◌, not, ◌&&◌, ◌||◌, nat_eq}
use Rattle.std.specs.List.{list_any}
use Rattle.std.proofs.Math.Bool.{or-false, or-true, and-false}
use Rattle.std.proofs.lemmas.Bool.{not-true, and_parts}
use Rattle.dns_events.specs.declared.look.Look.{Look as State}
use Rattle.dns_admission.specs.declared.call.Call.TheVariants as call
use Rattle.dns_admission.specs.Machine.{admitted, has_slot, has_version, state_after, new_state, replaced}
use Rattle.dns_events.specs.declared.event.Event.{Event}
use Rattle.dns_events.specs.declared.event.EventKind.{EventKind}
use Rattle.dns_events.specs.declared.event.EventKind.TheVariants.{Datagram, Offer, Release, Reconfigure, Shutdown}
use Rattle.dns_events.specs.declared.event.Step.{Step}
use Rattle.dns_events.specs.declared.event.Step.TheVariants.{Own, Look}
use Rattle.dns_session.specs.After.{slate_after, sent_after}
use Rattle.dns_session.specs.Rule.{rule, in_phase, unused_rule}
use Rattle.dns_session.specs.Slate.{Slate, Conf, Effect, Phase, Unused, conf_of, conf_rule, fresh, phase_is_closed, with_conf}
use Rattle.dns_core.specs.Settings.{opening}
use Rattle.dns_core.specs.Own.{is_wide}
use Rattle.dns_core.specs.Sent.{conf_after}
use Rattle.dns_core.specs.Out.{is_unused}
use Rattle.dns_core.specs.Trails.{is_open}
use Rattle.dns_core.specs.Books.{book_rule, is_entry, books}
use Rattle.dns_core.specs.Placed.{Knowledge, book_now, entries, own_events, is_beginning, begins, looks, puts, learns, place, learned, placed, knows, knowledge_at_first}
use Rattle.dns_core.specs.Outs.{Membership, placed_slate, call_for, next_membership, membership_after, membership}
use Rattle.dns_events.specs.declared.settings.Settings.{Settings}
use Rattle.dns_core.proofs.Plain.{Plain, plain_rule, narrow_conf, rule_used, unused_is, begun, offered}
use Rattle.dns_core.proofs.Late.{NotOver, over_after, never_open}
use Rattle.dns_core.proofs.Wide.{wide_idle}
use Rattle.dns_core.proofs.Looked.{Enter, ended, entry_wide, replaces}
use Rattle.dns_core.proofs.Placing.{slate_append}

-- the book without the slots
abbrev pub untaken : State → State
untaken b = record b { taken = 0 }

-- what a step does to it
abbrev pub book_step : State → Step → State
book_step b (Own e) = book_rule b e.kind
book_step b (Look at secs d) = b

-- ---- the book
pub no_entry : (k : EventKind) (b : State) → is_entry b k ≡ false → book_rule b k ≡ b
no_entry (Reconfigure d t) b h = two b.closed (has_version b) h
  where
    two : (z v : Bool) → (not z && v) ≡ false → (if z then b else (if v then replaced b d t else b)) ≡ b
    two true v h = refl
    two false true h = cc
    two false false h = refl
no_entry Shutdown b h = one b.closed refl h
  where
    one : (z : Bool) → b.closed ≡ z → not z ≡ false → record b { closed = true } ≡ b
    one true is h = ap (λ z. record b { closed = z }) (sym is)
    one false is h = cc
no_entry _ b h = refl

books_append : (b : State) (es fs : List Event) → books b (es ++ fs) ≡ books (books b es) fs
books_append b [] fs = refl
books_append b (e ∷ es) fs = books_append (book_rule b e.kind) es fs

entered_case : (h : Bool) (b : State) (e : Event) → is_entry b e.kind ≡ h → books b (if h then e ∷ [] else []) ≡ book_rule b e.kind
entered_case true b e h = refl
entered_case false b e h = sym (no_entry e.kind b h)

pub books_entries : (b : State) (s : Step) → books b (entries b s) ≡ book_step b s
books_entries b (Own e) = entered_case (is_entry b e.kind) b e refl
books_entries b (Look at secs d) = refl

beginning_book : (k : EventKind) (b : State) → is_beginning k ≡ true → book_rule b k ≡ b
beginning_book (Offer addr) b h = refl
beginning_book (Datagram addr o) b h = refl
beginning_book _ b h = cc

looks_book : (c : ℕ) (began : Bool) (b : State) (s : Step) → looks c began s ≡ true → book_step b s ≡ b
looks_book c began b (Own e) h = beginning_book e.kind b (and_parts (is_beginning e.kind) (e.client == c) (and_parts (begins c (Own e)) (not began) h).0).0
looks_book c began b (Look at secs d) h = refl

now_case : (l : Bool) (c : ℕ) (k : Knowledge) (s : Step) → looks c k.began s ≡ l → books (if l then book_now k else k.seen) (if l then [] else k.unheard ++ entries (book_now k) s) ≡ book_step (book_now k) s
now_case true c k s h = sym (looks_book c k.began (book_now k) s h)
now_case false c k s h = books_append k.seen k.unheard (entries (book_now k) s) ∙ books_entries (book_now k) s

pub now_learns : (c : ℕ) (k : Knowledge) (s : Step) → book_now (learns c k s) ≡ book_step (book_now k) s
now_learns c k s = now_case (looks c k.began s) c k s refl

enter_append : (b : State) (es fs : List Event) → Enter b es → Enter (books b es) fs → Enter b (es ++ fs)
enter_append b [] fs h g = g
enter_append b (e ∷ es) fs h g = (h.0, enter_append (book_rule b e.kind) es fs h.1 g)

enter_case : (h : Bool) (b : State) (e : Event) → is_entry b e.kind ≡ h → Enter b (if h then e ∷ [] else [])
enter_case true b e h = (h, tt)
enter_case false b e h = tt

enter_entries : (b : State) (s : Step) → Enter b (entries b s)
enter_entries b (Own e) = enter_case (is_entry b e.kind) b e refl
enter_entries b (Look at secs d) = tt

pub enter_learns : (c : ℕ) (k : Knowledge) (s : Step) → Enter k.seen k.unheard → Enter (learns c k s).seen (learns c k s).unheard
enter_learns c k s h = (elim (looks c k.began s) as (λ l. Enter (if l then book_now k else k.seen) (if l then [] else k.unheard ++ entries (book_now k) s)) [ true ↦ tt | false ↦ enter_append k.seen k.unheard (entries (book_now k) s) h (enter_entries (book_now k) s) ])

untaken_admit : (b : State) (z r : Bool) → untaken (if z then b else (if r then admitted b else b)) ≡ untaken b
untaken_admit b true r = refl
untaken_admit b false true = refl
untaken_admit b false false = refl

untaken_release : (b : State) (z : Bool) → untaken (state_after b (if z then call.Release else call.Look)) ≡ untaken b
untaken_release b true = refl
untaken_release b false = refl

pub untaken_kind : (k : EventKind) (b : State) (sl : Slate) (m : Bool) → untaken (state_after b (call_for sl m k)) ≡ book_rule (untaken b) k
untaken_kind (Offer addr) b sl m = (elim (is_unused sl.phase) as (λ u. untaken (state_after b (if u then call.Admit else call.Look)) ≡ untaken b) [ true ↦ untaken_admit b b.closed (has_slot b) | false ↦ refl ])
untaken_kind Release b sl m = untaken_release b (m && (phase_is_closed sl.phase && not sl.freed))
untaken_kind (Reconfigure d t) b sl m = two b.closed (has_version b)
  where
    two : (z v : Bool) → untaken (if z then b else (if v then replaced b d t else b)) ≡ (if z then untaken b else (if v then replaced (untaken b) d t else untaken b))
    two true v = refl
    two false true = refl
    two false false = refl
untaken_kind Shutdown b sl m = refl
untaken_kind _ b sl m = refl

-- ---- the configurations
conf_enter : (k : EventKind) (b : State) → is_entry b k ≡ true → conf_rule k (conf_of b) ≡ conf_of (book_rule b k)
conf_enter (Reconfigure d t) b h = let r = replaces b d t h in rw r.1 (rw r.0 refl)
conf_enter Shutdown b h = refl
conf_enter _ b h = refl

conf_unheard : (b : State) (es : List Event) → Enter b es → conf_after (conf_of b) es ≡ conf_of (books b es)
conf_unheard b [] h = refl
conf_unheard b (e ∷ es) h = ap (λ k. conf_after k es) (conf_enter e.kind b h.0) ∙ conf_unheard (book_rule b e.kind) es h.1

conf_append : (es fs : List Event) (k : Conf) → conf_after k (es ++ fs) ≡ conf_after (conf_after k es) fs
conf_append [] fs k = refl
conf_append (e ∷ es) fs k = conf_append es fs (conf_rule e.kind k)

conf_own_case : (z : Bool) (c : ℕ) (k : Conf) (e : Event) → (not (is_wide e.kind) && (e.client == c)) ≡ z → conf_after k (if z then e ∷ [] else []) ≡ k
conf_own_case true c k e h = narrow_conf e.kind k (not-true (is_wide e.kind) (and_parts (not (is_wide e.kind)) (e.client == c) h).0)
conf_own_case false c k e h = refl

conf_own : (c : ℕ) (k : Conf) (s : Step) → conf_after k (own_events c s) ≡ k
conf_own c k (Own e) = conf_own_case (not (is_wide e.kind) && (e.client == c)) c k e refl
conf_own c k (Look at secs d) = refl

conf_mid : (l : Bool) (k : Knowledge) → Enter k.seen k.unheard → conf_after (conf_of k.seen) (if l then k.unheard else []) ≡ conf_of (if l then book_now k else k.seen)
conf_mid true k h = conf_unheard k.seen k.unheard h
conf_mid false k h = refl

conf_puts : (c : ℕ) (k : Knowledge) (s : Step) → Enter k.seen k.unheard → conf_after (conf_of k.seen) (puts c k s) ≡ conf_of (learns c k s).seen
conf_puts c k s h =
    conf_append (if looks c k.began s then k.unheard else []) (own_events c s) (conf_of k.seen)
    ∙ conf_own c (conf_after (conf_of k.seen) (if looks c k.began s then k.unheard else [])) s
    ∙ conf_mid (looks c k.began s) k h

pub wide_no_beginning : (k : EventKind) → is_wide k ≡ true → is_beginning k ≡ false
wide_no_beginning (Reconfigure d t) h = refl
wide_no_beginning Shutdown h = refl
wide_no_beginning _ h = cc

and_all : (a : Bool) → (a && true) ≡ a
and_all true = refl
and_all false = refl

module _ (answers : Serving) where
  -- ---- who begins
  pub no_begin : (e : Event) (k : EventKind) (s : Slate) → is_beginning k ≡ false → unused_rule e k s ≡ (s, [])
  no_begin e (Offer addr) s h = cc
  no_begin e (Datagram addr o) s h = cc
  no_begin e _ s h = refl

  unused_case : (e : Event) (s : Slate) (b : Bool) → is_beginning e.kind ≡ false → is_unused s.phase ≡ b → is_unused (rule answers e s).0.phase ≡ b
  unused_case e s true n u =
      let p = unused_is s.phase u in
      let t = with_conf (conf_rule e.kind s.conf) s in
      let at_unused : rule answers e s ≡ unused_rule e e.kind t = ap (λ (q : Phase). in_phase answers e q t) p in
      ap (λ (r : Effect). is_unused r.0.phase) (at_unused ∙ no_begin e e.kind t n) ∙ u
  unused_case e s false n u = rule_used answers e s u

  pub unused_kept : (e : Event) (s : Slate) → is_beginning e.kind ≡ false → is_unused (rule answers e s).0.phase ≡ is_unused s.phase
  unused_kept e s n = unused_case e s (is_unused s.phase) n refl

  pub opens_kind : (k : EventKind) (e : Event) (s : Slate) → e.kind ≡ k → is_beginning k ≡ true → s.phase ≡ Unused → s.conf.over ≡ false → is_unused (rule answers e s).0.phase ≡ false
  opens_kind (Offer addr) e s is h p o = ap (λ (r : Effect). is_unused r.0.phase) (offered answers e s addr is p o)
  opens_kind (Datagram addr x) e s is h p o = ap (λ (r : Effect). is_unused r.0.phase) (begun answers e s addr x is p o)
  opens_kind _ e s is h p o = cc

  plain_list : (es : List Event) (k : Conf) (sl : Slate) → Plain answers k sl → Plain answers (conf_after k es) (slate_after answers sl es)
  plain_list [] k sl p = p
  plain_list (e ∷ es) k sl p = plain_list es (conf_rule e.kind k) (rule answers e sl).0 (plain_rule answers e k sl p)

  pub unused_list : (b : State) (es : List Event) (sl : Slate) → Enter b es → is_unused (slate_after answers sl es).phase ≡ is_unused sl.phase
  unused_list b [] sl h = refl
  unused_list b (e ∷ es) sl h = unused_list (book_rule b e.kind) es (rule answers e sl).0 h.1 ∙ unused_kept e sl (wide_no_beginning e.kind (entry_wide e.kind b h.0))

  -- an unused client is told nothing by the book's entries
  pub unused_says : (b : State) (es : List Event) (sl : Slate) → Enter b es → is_unused sl.phase ≡ true → sent_after answers sl es ≡ []
  unused_says b [] sl h u = refl
  unused_says b (e ∷ es) sl h u =
      let wd = entry_wide e.kind b h.0 in
      let shut : is_open sl.phase ≡ false = ap is_open (unused_is sl.phase u) in
      let one : (rule answers e sl).1 ≡ [] = ap (λ (r : Effect). r.1) (wide_idle answers e sl wd shut) in
      let more = unused_says (book_rule b e.kind) es (rule answers e sl).0 h.1 (unused_kept e sl (wide_no_beginning e.kind wd) ∙ u) in
      ap (λ os. os ++ sent_after answers (rule answers e sl).0 es) one ∙ more

  -- what holds of a client and its slate
  pub record TiedSlate (k : Knowledge) (sl : Slate) : Type 0 where
    pub plain : Plain answers (conf_of k.seen) sl
    pub enter : Enter k.seen k.unheard
    pub not_over : NotOver sl
    -- who began in vain did so after a Shutdown
    pub over : k.began ≡ true → is_unused sl.phase ≡ true → k.seen.closed ≡ true
    pub begun : is_unused sl.phase ≡ false → k.began ≡ true

  -- a list of entries is heard
  pub heard_slate : (l : Bool) (k : Knowledge) (sl : Slate) → TiedSlate k sl → is_unused (slate_after answers sl (if l then k.unheard else [])).phase ≡ is_unused sl.phase
  heard_slate true k sl t = unused_list k.seen k.unheard sl t.enter
  heard_slate false k sl t = refl

  pub still_closed : (l : Bool) (k : Knowledge) → Enter k.seen k.unheard → k.seen.closed ≡ true → (if l then book_now k else k.seen).closed ≡ true
  still_closed true k h o = let none = ended k.seen k.unheard o h in rw none o
  still_closed false k h o = o

  -- what is met after that
  pub middle_plain : (l : Bool) (k : Knowledge) (sl : Slate) → TiedSlate k sl → Plain answers (conf_of (if l then book_now k else k.seen)) (slate_after answers sl (if l then k.unheard else []))
  middle_plain l k sl t = rw (← conf_mid l k t.enter) (plain_list (if l then k.unheard else []) (conf_of k.seen) sl t.plain)

  -- what an own event does
  pub record OwnTied (began : Bool) (closed : Bool) (sl : Slate) : Type 0 where
    pub over : began ≡ true → is_unused sl.phase ≡ true → closed ≡ true
    pub begun : is_unused sl.phase ≡ false → began ≡ true

  still_open_case : (z : Bool) (e : Event) (look : State) (sl : Slate) → Plain answers (conf_of look) sl → is_beginning e.kind ≡ true → is_unused sl.phase ≡ true → is_unused (rule answers e sl).0.phase ≡ true → look.closed ≡ z → look.closed ≡ true
  still_open_case true e look sl p h is un cl = cl
  still_open_case false e look sl p h is un cl =
      let o : sl.conf.over ≡ false = ap (λ (k : Conf). k.over) p.conf ∙ cl in
      let z = opens_kind e.kind e sl refl h (unused_is sl.phase is) o in
      cc

  began_case : (u : Bool) (e : Event) (look : State) (sl : Slate) → Plain answers (conf_of look) sl → is_beginning e.kind ≡ true → is_unused sl.phase ≡ u → is_unused (rule answers e sl).0.phase ≡ true → look.closed ≡ true
  began_case false e look sl p h is un = let z = rule_used answers e sl is in cc
  began_case true e look sl p h is un = still_open_case look.closed e look sl p h is un refl

  own_case : (z : Bool) (e : Event) (began : Bool) (look : State) (sl : Slate) → Plain answers (conf_of look) sl → OwnTied began look.closed sl → is_beginning e.kind ≡ z → OwnTied (began || z) look.closed (rule answers e sl).0
  own_case true e began look sl p t h = record { over = λ b un. began_case (is_unused sl.phase) e look sl p h refl un; begun = λ u. or-true began }
  own_case false e began look sl p t h =
      let un = unused_kept e sl h in
      record { over = λ b u. t.over (sym (or-false began) ∙ b) (sym un ∙ u); begun = λ u. or-false began ∙ t.begun (sym un ∙ u) }

  own_event : (e : Event) (began : Bool) (look : State) (sl : Slate) → Plain answers (conf_of look) sl → OwnTied began look.closed sl → OwnTied (began || is_beginning e.kind) look.closed (rule answers e sl).0
  own_event e began look sl p t = own_case (is_beginning e.kind) e began look sl p t refl

  own_by : (w q : Bool) (e : Event) (began : Bool) (look : State) (sl : Slate) → Plain answers (conf_of look) sl → OwnTied began look.closed sl → is_wide e.kind ≡ w
      → OwnTied (began || (is_beginning e.kind && q)) look.closed (slate_after answers sl (if not w && q then e ∷ [] else []))
  own_by false true e began look sl p t wd = let o = own_event e began look sl p t in let f = and_all (is_beginning e.kind) in rw f o
  own_by false false e began look sl p t wd = let f = and-false (is_beginning e.kind) in rw f (let g = or-false began in rw g t)
  own_by true q e began look sl p t wd = let n = wide_no_beginning e.kind wd in rw n (let g = or-false began in rw g t)

  own_tied : (c : ℕ) (s : Step) (began : Bool) (look : State) (sl : Slate) → Plain answers (conf_of look) sl → OwnTied began look.closed sl → OwnTied (began || begins c s) look.closed (slate_after answers sl (own_events c s))
  own_tied c (Own e) began look sl p t = own_by (is_wide e.kind) (e.client == c) e began look sl p t refl
  own_tied c (Look at secs d) began look sl p t = let g = or-false began in rw g t

  pub tied_slate : (c : ℕ) (k : Knowledge) (s : Step) (sl : Slate) → TiedSlate k sl → TiedSlate (learns c k s) (slate_after answers sl (puts c k s))
  tied_slate c k s sl t =
      let l = looks c k.began s in
      let es = if l then k.unheard else [] in
      let mid = slate_after answers sl es in
      let join : slate_after answers sl (puts c k s) ≡ slate_after answers mid (own_events c s) = slate_append answers es (own_events c s) sl in
      let un = heard_slate l k sl t in
      let midplain : Plain answers (conf_of (learns c k s).seen) mid = middle_plain l k sl t in
      let own = own_tied c s k.began (learns c k s).seen mid midplain (record { over = λ b u. still_closed l k t.enter (t.over b (sym un ∙ u)); begun = λ u. t.begun (sym un ∙ u) }) in
      record {
        plain = rw (← conf_puts c k s t.enter) (plain_list (puts c k s) (conf_of k.seen) sl t.plain);
        enter = enter_learns c k s t.enter;
        not_over = over_after answers (puts c k s) sl t.not_over;
        over = rw join own.over;
        begun = rw join own.begun;
      }

  pub record Tied (b : State) (k : Knowledge) (sl : Slate) : Type 0 where
    pub slate : TiedSlate k sl
    pub book : untaken b ≡ book_now k

  module _ (settings : Settings) where
    book_next : (q : List Step) (h : Membership) (s : Step) → untaken (next_membership answers settings q h s).book ≡ book_step (untaken h.book) s
    book_next q h (Own e) = untaken_kind e.kind h.book (placed_slate answers settings e.client q) (list_any (nat_eq e.client) h.members)
    book_next q h (Look at secs d) = refl

    tied_more : (c : ℕ) (q : List Step) (h : Membership) (k : Knowledge) (sl : Slate) (s : Step) → Tied h.book k sl → Tied (next_membership answers settings q h s).book (learns c k s) (slate_after answers sl (puts c k s))
    tied_more c q h k sl s t = record {
      slate = tied_slate c k s sl t.slate;
      book = book_next q h s ∙ ap (λ b. book_step b s) t.book ∙ sym (now_learns c k s);
    }

    tied_after : (c : ℕ) (p : List Step) (h : Membership) (k : Knowledge) (sl : Slate) (q : List Step) → Tied h.book k sl → Tied (membership_after answers settings p h q).book (learned c k q) (slate_after answers sl (place c k q))
    tied_after c p h k sl [] t = t
    tied_after c p h k sl (s ∷ q) t = rw (slate_append answers (puts c k s) (place c (learns c k s) q) sl) (tied_after c (p ++ s ∷ []) (next_membership answers settings p h s) (learns c k s) (slate_after answers sl (puts c k s)) q (tied_more c p h k sl s t))

    -- the book, what a client knows of it and its slate are tied after any steps
    pub tied : (c : ℕ) (q : List Step) → Tied (membership answers settings q).book (knows settings c q) (placed_slate answers settings c q)
    unfolding membership knows placed_slate placed
    tied c q = tied_after c [] (record { book = new_state settings.dgram settings.stream; members = [] }) (knowledge_at_first settings) (fresh (opening settings)) q (record {
      slate = record {
        plain = record { conf = refl; unused = λ u. refl };
        enter = tt;
        not_over = never_open answers (opening settings);
        over = λ b u. let z : false ≡ true = b in cc;
        begun = λ u. let z : true ≡ false = u in cc;
      };
      book = refl;
    })
