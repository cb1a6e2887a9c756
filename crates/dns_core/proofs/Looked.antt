-- What the entries of the book since a look tell a client, a look tells it at once.
use Rattle.dns_session.specs.Serving.{Serving}
use Rattle.std.proofs.Common.{◌≡◌, ℕ, ◌+◌, ◌<◌, List, [], ◌∷◌, ◌++◌, Bool, true, false, refl, ap, sym, ◌∙◌, arith, ⊎_elim, ◌⊎◌, inl, inr}
use Rattle.std.specs.Prelude.{if◌then◌else◌, not, ◌&&◌}
use Rattle.std.proofs.lemmas.Bool.{eq-eqb, ne_eqb, and_parts, not-true}
use Rattle.std.proofs.lemmas.List.{append-nil}
use Rattle.std.proofs.Math.Bool.{and-not_self}
use Rattle.dns_events.specs.declared.look.Look.{Look as State}
use Rattle.dns_admission.specs.Machine.{has_version, replaced}
use Rattle.dns_service.specs.Config.{Dgram, Stream}
use Rattle.dns_events.specs.declared.event.Event.{Event}
use Rattle.dns_events.specs.declared.event.EventKind.{EventKind}
use Rattle.dns_events.specs.declared.event.EventKind.TheVariants.{Reconfigure, Shutdown}
use Rattle.dns_session.specs.After.{slate_after, sent_after}
use Rattle.dns_session.specs.News.{wide, news, new_end, look_effect}
use Rattle.dns_session.specs.Rule.{rule, in_phase}
use Rattle.dns_session.specs.Slate.{Slate, Conf, Effect, Phase, Unused, conf_of, conf_rule, with_conf}
use Rattle.dns_core.specs.Own.{is_wide}
use Rattle.dns_core.specs.Books.{book_rule, is_entry, books}
use Rattle.dns_core.proofs.Late.{NotOver, late_reconfigure, late_shutdown, rule_over}
use Rattle.dns_core.proofs.Plain.{rule_conf}

-- each event changed the book
abbrev pub Enter : State → List Event → Type 0
Enter b [] = Unit {0}
Enter b (e ∷ es) = (is_entry b e.kind ≡ true) × Enter (book_rule b e.kind) es

-- either the configurations are the same, or their version rose
abbrev pub Moves : State → State → Type 0
Moves b b' = ((b'.version ≡ b.version) × (b'.dgram ≡ b.dgram) × (b'.stream ≡ b.stream)) ⊎ (b.version < b'.version)

-- a Reconfigure that is an entry
pub replaces : (b : State) (d : Dgram) (t : Stream) → is_entry b (Reconfigure d t) ≡ true → (b.closed ≡ false) × (book_rule b (Reconfigure d t) ≡ replaced b d t)
replaces b d t h =
    let o = not-true b.closed (and_parts (not b.closed) (has_version b) h).0 in
    let v = (and_parts (not b.closed) (has_version b) h).1 in
    (o, rw (o, v) refl)

moves_kind : (k : EventKind) (b : State) (es : List Event) → is_entry b k ≡ true → Moves (book_rule b k) (books (book_rule b k) es) → Moves b (books (book_rule b k) es)
moves_kind (Reconfigure d t) b es h m =
    let r : book_rule b (Reconfigure d t) ≡ replaced b d t = (replaces b d t h).1 in
    let b' = book_rule b (Reconfigure d t) in
    let v : b'.version ≡ b.version + 1 = ap (λ (x : State). x.version) r in
    ⊎_elim (λ (same : ((books b' es).version ≡ b'.version) × ((books b' es).dgram ≡ b'.dgram) × ((books b' es).stream ≡ b'.stream)). inr (omega (arith, same.0, v)))
    (λ (more : b'.version < (books b' es).version). inr (omega (arith, more, v)))
    m
moves_kind Shutdown b es h m = m
moves_kind _ b es h m = cc

pub moves : (b : State) (es : List Event) → Enter b es → Moves b (books b es)
moves b [] h = inl (refl, refl, refl)
moves b (e ∷ es) h = moves_kind e.kind b es h.0 (moves (book_rule b e.kind) es h.1)

no_entry : (b : State) (k : EventKind) → b.closed ≡ true → is_entry b k ≡ true → ⊥
no_entry b (Reconfigure d t) c h = let o = (replaces b d t h).0 in cc
no_entry b Shutdown c h = let o = not-true b.closed h in cc
no_entry b _ c h = cc

-- nothing enters the book after a Shutdown
pub ended : (b : State) (es : List Event) → b.closed ≡ true → Enter b es → es ≡ []
ended b [] c h = refl
ended b (e ∷ es) c h = absurd (no_entry b e.kind c h.0)

pub entry_wide : (k : EventKind) (b : State) → is_entry b k ≡ true → is_wide k ≡ true
entry_wide (Reconfigure d t) b h = refl
entry_wide Shutdown b h = refl
entry_wide _ b h = cc

module _ (answers : Serving) where
  abbrev pub effect : List Event → Slate → Effect
  effect es s = (slate_after answers s es, sent_after answers s es)

  -- after a Shutdown no event that all hear changes anything
  over_kind : (k : EventKind) (e : Event) (s : Slate) → e.kind ≡ k → is_wide k ≡ true → NotOver s → s.conf.over ≡ true → rule answers e s ≡ (s, [])
  over_kind (Reconfigure d t) e s is w n o = late_reconfigure answers e d t s is n o
  over_kind Shutdown e s is w n o = late_shutdown answers e s is n o
  over_kind _ e s is w n o = cc

  pub over_idle : (e : Event) (s : Slate) → is_wide e.kind ≡ true → NotOver s → s.conf.over ≡ true → rule answers e s ≡ (s, [])
  over_idle e s w n o = over_kind e.kind e s refl w n o

  -- the moment and the number of an event that all hear say nothing
  reconfigure_alone : (e f : Event) (d : Dgram) (t : Stream) (p : Phase) (s : Slate) → e.kind ≡ Reconfigure d t → f.kind ≡ Reconfigure d t → in_phase answers e p s ≡ in_phase answers f p s
  reconfigure_alone e f d t Unused s is is' = rw (is, is') refl
  reconfigure_alone e f d t _ s is is' = rw (is, is') refl

  shutdown_alone : (e f : Event) (p : Phase) (s : Slate) → e.kind ≡ Shutdown → f.kind ≡ Shutdown → in_phase answers e p s ≡ in_phase answers f p s
  shutdown_alone e f Unused s is is' = rw (is, is') refl
  shutdown_alone e f _ s is is' = rw (is, is') refl

  kind_alone : (k : EventKind) (e f : Event) (p : Phase) (s : Slate) → e.kind ≡ k → f.kind ≡ k → is_wide k ≡ true → in_phase answers e p s ≡ in_phase answers f p s
  kind_alone (Reconfigure d t) e f p s is is' w = reconfigure_alone e f d t p s is is'
  kind_alone Shutdown e f p s is is' w = shutdown_alone e f p s is is'
  kind_alone _ e f p s is is' w = cc

  pub wide_alone : (e : Event) (s : Slate) → is_wide e.kind ≡ true → rule answers (wide e.kind) s ≡ rule answers e s
  wide_alone e s w = kind_alone e.kind (wide e.kind) e s.phase (with_conf (conf_rule e.kind s.conf) s) refl refl w

  told_one : (e : Event) (s : Slate) → effect (e ∷ []) s ≡ rule answers e s
  told_one e s = ap (λ os. let r : Effect = ((rule answers e s).0, os) in r) (append-nil (rule answers e s).1)

  phase_says : (d : Dgram) (t : Stream) (p : Phase) (s : Slate) → (in_phase answers (wide (Reconfigure d t)) p s).1 ≡ []
  phase_says d t Unused s = refl
  phase_says d t _ s = refl

  pub reconfigure_says : (d : Dgram) (t : Stream) (s : Slate) → (rule answers (wide (Reconfigure d t)) s).1 ≡ []
  reconfigure_says d t s = phase_says d t s.phase (with_conf (conf_rule (Reconfigure d t) s.conf) s)

  -- of two configurations the later one counts
  later_phase : (p : Phase) (d d' : Dgram) (t t' : Stream) (s : Slate) → s.phase ≡ p → s.conf.over ≡ false → rule answers (wide (Reconfigure d' t')) (rule answers (wide (Reconfigure d t)) s).0 ≡ rule answers (wide (Reconfigure d' t')) s
  later_phase Unused d d' t t' s p o = rw (p, o) refl
  later_phase _ d d' t t' s p o = rw (p, o) refl

  pub later_counts : (d d' : Dgram) (t t' : Stream) (s : Slate) → s.conf.over ≡ false → rule answers (wide (Reconfigure d' t')) (rule answers (wide (Reconfigure d t)) s).0 ≡ rule answers (wide (Reconfigure d' t')) s
  later_counts d d' t t' s o = later_phase s.phase d d' t t' s refl o

  -- what follows the rule of a first event
  abbrev after_first : List Event → Effect → Effect
  after_first es r = (slate_after answers r.0 es, r.1 ++ sent_after answers r.0 es)

  news_new : (v : ℕ) (over : Bool) (b : State) → (b.version ≡ v → ⊥) → news v over b ≡ wide (Reconfigure b.dgram b.stream) ∷ new_end over b
  news_new v over b ne = let n = ne_eqb b.version v ne in rw n refl

  news_old : (v : ℕ) (over : Bool) (b : State) → b.version ≡ v → news v over b ≡ new_end over b
  news_old v over b e = let n = eq-eqb b.version v e in rw n refl

  -- a look at the book of the last look tells nothing
  pub no_news : (b : State) (s : Slate) → s.conf ≡ conf_of b → news b.version s.conf.over b ≡ []
  no_news b s c =
      let o : s.conf.over ≡ b.closed = ap (λ (k : Conf). k.over) c in
      let n : (b.closed && not s.conf.over) ≡ false = ap (λ x. b.closed && not x) o ∙ and-not_self b.closed in
      news_old b.version s.conf.over b refl ∙ ap (λ x. if x then wide Shutdown ∷ [] else []) n

  heard_config : (d : Dgram) (t : Stream) (b : State) (es : List Event) (s : Slate) → is_entry b (Reconfigure d t) ≡ true → Enter (book_rule b (Reconfigure d t)) es
      → s.conf ≡ conf_of b → NotOver s
      → ((u : Slate) → u.conf ≡ conf_of (book_rule b (Reconfigure d t)) → NotOver u → look_effect answers (book_rule b (Reconfigure d t)).version (books (book_rule b (Reconfigure d t)) es) u ≡ effect es u)
      → look_effect answers b.version (books (book_rule b (Reconfigure d t)) es) s ≡ effect (wide (Reconfigure d t) ∷ es) s
  heard_config d t b es s h hs c n ih =
      let r = replaces b d t h in
      let b' = book_rule b (Reconfigure d t) in
      let last = books b' es in
      let x = wide (Reconfigure d t) in
      let y = wide (Reconfigure last.dgram last.stream) in
      let u = (rule answers x s).0 in
      let o : s.conf.over ≡ false = ap (λ (k : Conf). k.over) c ∙ r.0 in
      let uc : u.conf ≡ record { dgram = d; stream = t; over = false } = rule_conf answers x s ∙ rw o refl in
      let bc : conf_of b' ≡ record { dgram = d; stream = t; over = false } = ap conf_of r.1 ∙ ap (λ z. let k : Conf = record { dgram = d; stream = t; over = z } in k) r.0 in
      let uo : u.conf.over ≡ false = ap (λ (k : Conf). k.over) uc in
      let v : b'.version ≡ b.version + 1 = ap (λ (x : State). x.version) r.1 in
      let none = reconfigure_says d t s in
      let go = ih u (uc ∙ sym bc) (rule_over answers x s n) in
      let later : (last.version ≡ b.version → ⊥) = λ e. ⊎_elim (λ (m : (last.version ≡ b'.version) × (last.dgram ≡ b'.dgram) × (last.stream ≡ b'.stream)). omega (arith, m.0, v, e)) (λ (m : b'.version < last.version). omega (arith, m, v, e)) (moves b' es hs) in
      let left : effect (news b.version s.conf.over last) s ≡ effect (y ∷ new_end false last) s = ap (λ l. effect l s) (news_new b.version s.conf.over last later ∙ ap (λ z. y ∷ new_end z last) o) in
      let right : effect (x ∷ es) s ≡ effect es u = ap (λ os. let p : Effect = (slate_after answers u es, os ++ sent_after answers u es) in p) none in
      left
      ∙ ⊎_elim
      (λ (m : (last.version ≡ b'.version) × (last.dgram ≡ b'.dgram) × (last.stream ≡ b'.stream)).
      let same_dgram : last.dgram ≡ d = m.1 ∙ ap (λ (x : State). x.dgram) r.1 in
      let same_stream : last.stream ≡ t = m.2 ∙ ap (λ (x : State). x.stream) r.1 in
      ap (λ (z : Dgram). effect (wide (Reconfigure z last.stream) ∷ new_end false last) s) same_dgram
      ∙ ap (λ (z : Stream). effect (wide (Reconfigure d z) ∷ new_end false last) s) same_stream
      ∙ ap (λ os. let p : Effect = (slate_after answers u (new_end false last), os ++ sent_after answers u (new_end false last)) in p) none
      ∙ sym (ap (λ l. effect l u) (news_old b'.version u.conf.over last m.0 ∙ ap (λ z. new_end z last) uo)))
      (λ (m : b'.version < last.version).
      ap (after_first (new_end false last)) (sym (later_counts d last.dgram t last.stream s o))
      ∙ sym (ap (λ l. effect l u) (news_new b'.version u.conf.over last (λ e. omega (arith, m, e)) ∙ ap (λ z. y ∷ new_end z last) uo)))
      (moves b' es hs)
      ∙ go
      ∙ sym right

  heard_end : (b : State) (es : List Event) (s : Slate) → is_entry b Shutdown ≡ true → Enter (book_rule b Shutdown) es → s.conf ≡ conf_of b → look_effect answers b.version (books (book_rule b Shutdown) es) s ≡ effect (wide Shutdown ∷ es) s
  heard_end b es s h hs c =
      let o : s.conf.over ≡ false = ap (λ (k : Conf). k.over) c ∙ not-true b.closed h in
      let none = ended (book_rule b Shutdown) es refl hs in
      let b' = book_rule b Shutdown in
      let n : news b.version s.conf.over b' ≡ wide Shutdown ∷ [] = news_old b.version s.conf.over b' refl ∙ ap (λ z. new_end z b') o in
      rw none (ap (λ l. effect l s) n)

  heard_kind : (k : EventKind) (b : State) (es : List Event) (s : Slate) → is_entry b k ≡ true → Enter (book_rule b k) es
      → s.conf ≡ conf_of b → NotOver s
      → ((u : Slate) → u.conf ≡ conf_of (book_rule b k) → NotOver u → look_effect answers (book_rule b k).version (books (book_rule b k) es) u ≡ effect es u)
      → look_effect answers b.version (books (book_rule b k) es) s ≡ effect (wide k ∷ es) s
  heard_kind (Reconfigure d t) b es s h hs c n ih = heard_config d t b es s h hs c n ih
  heard_kind Shutdown b es s h hs c n ih = heard_end b es s h hs c
  heard_kind _ b es s h hs c n ih = cc

  -- whoever knows the book as it was before some entries hears of all of them by one look
  pub heard_all : (b : State) (es : List Event) (s : Slate) → Enter b es → s.conf ≡ conf_of b → NotOver s → look_effect answers b.version (books b es) s ≡ effect es s
  heard_all b [] s h c n = ap (λ l. effect l s) (no_news b s c)
  heard_all b (e ∷ es) s h c n =
      heard_kind e.kind b es s h.0 h.1 c n (λ u uc un. heard_all (book_rule b e.kind) es u h.1 uc un)
      ∙ ap (after_first es) (wide_alone e s (entry_wide e.kind b h.0))

  shut_if : (a b : Bool) → b ≡ true → (not a && b) ≡ false → a ≡ true
  shut_if true b v h = refl
  shut_if false b v h = cc

  still : (k : EventKind) (b : State) → is_wide k ≡ true → has_version b ≡ true → is_entry b k ≡ false → (b.closed ≡ true) × (book_rule b k ≡ b)
  still (Reconfigure d t) b w v h = let o : b.closed ≡ true = shut_if b.closed (has_version b) v h in (o, rw o refl)
  still Shutdown b w v h = let o : b.closed ≡ true = closed_by b.closed h in (o, ap (λ z. record b { closed = z }) (sym o))
    where
      closed_by : (z : Bool) → not z ≡ false → z ≡ true
      closed_by true h = refl
      closed_by false h = cc
  still _ b w v h = cc

  one_case : (x : Bool) (e : Event) (b : State) (s : Slate) → is_wide e.kind ≡ true → has_version b ≡ true → s.conf ≡ conf_of b → NotOver s → is_entry b e.kind ≡ x → look_effect answers b.version (book_rule b e.kind) s ≡ rule answers e s
  one_case true e b s w v c n h = heard_all b (e ∷ []) s (h, tt) c n ∙ told_one e s
  one_case false e b s w v c n h =
      let z = still e.kind b w v h in
      ap (λ (x : State). look_effect answers b.version x s) z.1 ∙ ap (λ l. effect l s) (no_news b s c) ∙ sym (over_idle e s w n (ap (λ (k : Conf). k.over) c ∙ z.0))

  -- one event that acts on the book, and a look after it
  pub heard_one : (e : Event) (b : State) (s : Slate) → is_wide e.kind ≡ true → has_version b ≡ true → s.conf ≡ conf_of b → NotOver s → look_effect answers b.version (book_rule b e.kind) s ≡ rule answers e s
  heard_one e b s w v c n = one_case (is_entry b e.kind) e b s w v c n refl
