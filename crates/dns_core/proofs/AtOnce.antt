-- Whoever looks after each event that all hear is sent what it is sent if it hears of each at once, whoever else looks then.
use Rattle.dns_session.specs.Serving.{Serving}
use Rattle.std.proofs.Common.{◌≡◌, ℕ, ◌+◌, ◌≤◌, List, [], ◌∷◌, ◌++◌, length, Bool, true, false, refl, ap, sym, ◌∙◌, ◌≢◌, arith, lt-ltb, ⊎_elim}
use Rattle.std.specs.Prelude.{if◌then◌else◌, ◌==◌, map, not, ◌&&◌, ◌||◌, nat_eq}
use Rattle.std.specs.List.{list_any}
use Rattle.std.proofs.lemmas.Bool.{cases_eq, eq-eqb, ne_eqb}
use Rattle.std.proofs.lemmas.List.{append-nil}
use Rattle.std.proofs.Math.Bool.{or-false}
use Rattle.dns_events.specs.declared.look.Look.{Look as State}
use Rattle.dns_admission.specs.Machine.{has_version, last_version, new_state}
use Rattle.dns_events.specs.declared.event.Event.{Event}
use Rattle.dns_events.specs.declared.event.EventKind.{EventKind}
use Rattle.dns_events.specs.declared.event.EventKind.TheVariants.{Reconfigure, Shutdown}
use Rattle.dns_events.specs.declared.event.Output.{Output}
use Rattle.dns_events.specs.declared.event.Step.{Step}
use Rattle.dns_events.specs.declared.event.Step.TheVariants.{Own}
use Rattle.dns_session.specs.Rule.{rule}
use Rattle.dns_session.specs.Slate.{Slate, Conf, Effect, conf_of, conf_rule, fresh}
use Rattle.dns_core.specs.Settings.{opening}
use Rattle.dns_core.specs.Own.{is_wide, own}
use Rattle.dns_core.specs.Sent.{sent}
use Rattle.dns_core.specs.Books.{book_rule, is_entry, books}
use Rattle.dns_core.specs.Placed.{Knowledge, book_now, entries, own_events, begins, looks, puts, learns, place, placed}
use Rattle.dns_core.specs.AtOnce.{look_by, undelayed}
use Rattle.dns_events.specs.declared.settings.Settings.{Settings}
use Rattle.dns_core.proofs.Plain.{narrow_conf, rule_conf}
use Rattle.dns_core.proofs.Late.{NotOver, rule_over, never_open}
use Rattle.dns_core.proofs.Looked.{effect, over_idle}
use Rattle.dns_core.proofs.Tied.{wide_no_beginning}

-- what an event that all hear does to the book
pub record Enters (k : EventKind) (b : State) : Type 0 where
  pub conf : conf_of (book_rule b k) ≡ conf_rule k (conf_of b)
  pub version : (book_rule b k).version ≤ b.version + 1

pub enters : (k : EventKind) (b : State) → is_wide k ≡ true → has_version b ≡ true → Enters k b
enters (Reconfigure d t) b w v = closed_case b.closed refl
  where
    closed_case : (z : Bool) → b.closed ≡ z → Enters (Reconfigure d t) b
    closed_case true o = record { conf = rw o refl; version = rw o (omega arith) }
    closed_case false o = record { conf = rw (o, v) refl; version = rw (o, v) (omega arith) }
enters Shutdown b w v = record { conf = refl; version = omega arith }
enters _ b w v = cc

-- who has heard all
abbrev knowing : Bool → State → Knowledge
knowing began b = record { began = began; seen = b; unheard = [] }

pub closed_if : (k : EventKind) (b : State) → is_wide k ≡ true → has_version b ≡ true → is_entry b k ≡ false → b.closed ≡ true
closed_if (Reconfigure d t) b w v h = one b.closed (has_version b) v h
  where
    one : (z v : Bool) → v ≡ true → (not z && v) ≡ false → z ≡ true
    one true v e h = refl
    one false v e h = cc
closed_if Shutdown b w v h = one b.closed h
  where
    one : (z : Bool) → not z ≡ false → z ≡ true
    one true h = refl
    one false h = cc
closed_if _ b w v h = cc

pub own_no_entry : (k : EventKind) (b : State) → is_wide k ≡ false → is_entry b k ≡ false
own_no_entry (Reconfigure d t) b w = cc
own_no_entry Shutdown b w = cc
own_no_entry _ b w = refl

-- an own event leaves nothing unheard
own_learns : (c : ℕ) (began : Bool) (b : State) (e : Event) → is_wide e.kind ≡ false → learns c (knowing began b) (Own e) ≡ knowing (began || begins c (Own e)) b
own_learns c began b e w =
    let none = own_no_entry e.kind b w in
    rw none (elim (looks c began (Own e)) as (λ l. (let k : Knowledge = record { began = began || begins c (Own e); seen = if l then b else b; unheard = if l then [] else [] } in k) ≡ knowing (began || begins c (Own e)) b) [ true ↦ refl | false ↦ refl ])

abbrev no_events : List Event
no_events = []

none_either_way : (l : Bool) → (if l then [] else []) ≡ no_events
none_either_way true = refl
none_either_way false = refl

-- looks of whoever, of which the client's own tell it nothing
looks_done : (c : ℕ) (e : Event) (cs : List ℕ) (ss : List Step) (began : Bool) (b : State) → place c (knowing began b) (map (look_by e) cs ++ ss) ≡ place c (knowing began b) ss
looks_done c e [] ss began b = refl
looks_done c e (d ∷ cs) ss began b =
    let p : puts c (knowing began b) (look_by e d) ≡ [] = append-nil (if d == c then no_events else no_events) ∙ none_either_way (d == c) in
    let l : learns c (knowing began b) (look_by e d) ≡ knowing began b = (elim (d == c) as (λ x. (let k : Knowledge = record { began = began || false; seen = if x then b else b; unheard = if x then [] else [] } in k) ≡ knowing began b) [ true ↦ ap (λ z. knowing z b) (or-false began) | false ↦ ap (λ z. knowing z b) (or-false began) ]) in
    ap (λ es. es ++ place c (learns c (knowing began b) (look_by e d)) (map (look_by e) cs ++ ss)) p
    ∙ ap (λ k. place c k (map (look_by e) cs ++ ss)) l
    ∙ looks_done c e cs ss began b

-- looks of whoever, the client among them: it hears of what it has not heard of
looks_hear : (c : ℕ) (e : Event) (cs : List ℕ) (ss : List Step) (k : Knowledge) → list_any (nat_eq c) cs ≡ true → place c k (map (look_by e) cs ++ ss) ≡ k.unheard ++ place c (knowing k.began (book_now k)) ss
looks_hear c e [] ss k there = cc
looks_hear c e (d ∷ cs) ss k there =
    ⊎_elim
    (λ (same : d ≡ c).
    let self : (d == c) ≡ true = eq-eqb d c same in
    let p : puts c k (look_by e d) ≡ k.unheard = rw self (append-nil k.unheard) in
    let l : learns c k (look_by e d) ≡ knowing k.began (book_now k) = rw self (ap (λ z. knowing z (book_now k)) (or-false k.began)) in
    ap (λ es. es ++ place c (learns c k (look_by e d)) (map (look_by e) cs ++ ss)) p
    ∙ ap (λ x. k.unheard ++ place c x (map (look_by e) cs ++ ss)) l
    ∙ ap (λ es. k.unheard ++ es) (looks_done c e cs ss k.began (book_now k)))
    (λ (apart : d ≢ c).
    let n : (d == c) ≡ false = ne_eqb d c apart in
    let m : nat_eq c d ≡ false = ne_eqb c d (λ h. apart (sym h)) in
    let p : puts c k (look_by e d) ≡ [] = rw n refl in
    let l : learns c k (look_by e d) ≡ k = rw n (ap (λ z. let x : Knowledge = record { began = z; seen = k.seen; unheard = k.unheard ++ [] } in x) (or-false k.began) ∙ ap (λ es. let x : Knowledge = record { began = k.began; seen = k.seen; unheard = es } in x) (append-nil k.unheard)) in
    let rest : list_any (nat_eq c) cs ≡ true = rw m at there in
    ap (λ es. es ++ place c (learns c k (look_by e d)) (map (look_by e) cs ++ ss)) p
    ∙ ap (λ x. place c x (map (look_by e) cs ++ ss)) l
    ∙ looks_hear c e cs ss k rest)
    (cases_eq d c)

module _ (answers : Serving) where
  abbrev join : List Output → Effect → Effect
  join os r = (r.0, os ++ r.1)

  abbrev Claim : List ℕ → ℕ → List Event → Type 0
  Claim cs c es = (began : Bool) (b : State) (sl : Slate) → sl.conf ≡ conf_of b → NotOver sl → b.version + length es ≤ last_version
      → effect answers (place c (knowing began b) (undelayed cs es)) sl ≡ effect answers (own c es) sl

  entered : (cs : List ℕ) (c : ℕ) (es : List Event) (e : Event) (began : Bool) (b : State) (sl : Slate) → Claim cs c es → is_wide e.kind ≡ true → sl.conf ≡ conf_of b → NotOver sl → b.version + length (e ∷ es) ≤ last_version
      → (h : Bool) → is_entry b e.kind ≡ h
      → effect answers ((if h then e ∷ [] else []) ++ place c (knowing began (books b (if h then e ∷ [] else []))) (undelayed cs es)) sl ≡ effect answers (e ∷ own c es) sl
  entered cs c es e began b sl ih w conf n few true h =
      let room : has_version b ≡ true = lt-ltb b.version last_version (omega (arith, few)) in
      let en = enters e.kind b w room in
      ap (join (rule answers e sl).1) (ih began (book_rule b e.kind) (rule answers e sl).0 (rule_conf answers e sl ∙ ap (conf_rule e.kind) conf ∙ sym en.conf) (rule_over answers e sl n) (omega (arith, en.version, few)))
  entered cs c es e began b sl ih w conf n few false h =
      let room : has_version b ≡ true = lt-ltb b.version last_version (omega (arith, few)) in
      let over : sl.conf.over ≡ true = ap (λ (k : Conf). k.over) conf ∙ closed_if e.kind b w room h in
      ih began b sl conf n (omega (arith, few)) ∙ sym (ap (λ (r : Effect). join r.1 (effect answers (own c es) r.0)) (over_idle answers e sl w n over))

  wide_case : (cs : List ℕ) (c : ℕ) (es : List Event) (e : Event) (began : Bool) (b : State) (sl : Slate) → list_any (nat_eq c) cs ≡ true → Claim cs c es → is_wide e.kind ≡ true → sl.conf ≡ conf_of b → NotOver sl → b.version + length (e ∷ es) ≤ last_version
      → effect answers (place c (knowing began b) (Own e ∷ (map (look_by e) cs ++ undelayed cs es))) sl ≡ effect answers (e ∷ own c es) sl
  wide_case cs c es e began b sl there ih w conf n few =
      let off = wide_no_beginning e.kind w in
      let u = entries b (Own e) in
      let k1 : Knowledge = record { began = began || begins c (Own e); seen = b; unheard = u } in
      let p1 : puts c (knowing began b) (Own e) ≡ [] = rw off (rw w refl) in
      let l1 : learns c (knowing began b) (Own e) ≡ k1 = rw off refl in
      ap (λ l. effect answers (l ++ place c (learns c (knowing began b) (Own e)) (map (look_by e) cs ++ undelayed cs es)) sl) p1
      ∙ ap (λ k. effect answers (place c k (map (look_by e) cs ++ undelayed cs es)) sl) l1
      ∙ ap (λ l. effect answers l sl) (looks_hear c e cs (undelayed cs es) k1 there)
      ∙ entered cs c es e (began || begins c (Own e)) b sl ih w conf n few (is_entry b e.kind) refl

  own_case : (cs : List ℕ) (c : ℕ) (es : List Event) (e : Event) (began : Bool) (b : State) (sl : Slate) → Claim cs c es → is_wide e.kind ≡ false → sl.conf ≡ conf_of b → NotOver sl → b.version + length (e ∷ es) ≤ last_version
      → (q : Bool) → (e.client == c) ≡ q
      → effect answers (place c (knowing began b) (Own e ∷ undelayed cs es)) sl ≡ effect answers (if q then e ∷ own c es else own c es) sl
  own_case cs c es e began b sl ih w conf n few true q =
      let p : puts c (knowing began b) (Own e) ≡ e ∷ [] = ap (λ l. l ++ own_events c (Own e)) (none_either_way (looks c began (Own e))) ∙ rw (w, q) refl in
      ap (λ l. effect answers (l ++ place c (learns c (knowing began b) (Own e)) (undelayed cs es)) sl) p
      ∙ ap (λ k. effect answers (e ∷ place c k (undelayed cs es)) sl) (own_learns c began b e w)
      ∙ ap (join (rule answers e sl).1) (ih (began || begins c (Own e)) b (rule answers e sl).0 (rule_conf answers e sl ∙ narrow_conf e.kind sl.conf w ∙ conf) (rule_over answers e sl n) (omega (arith, few)))
  own_case cs c es e began b sl ih w conf n few false q =
      let p : puts c (knowing began b) (Own e) ≡ [] = ap (λ l. l ++ own_events c (Own e)) (none_either_way (looks c began (Own e))) ∙ rw (w, q) refl in
      ap (λ l. effect answers (l ++ place c (learns c (knowing began b) (Own e)) (undelayed cs es)) sl) p
      ∙ ap (λ k. effect answers (place c k (undelayed cs es)) sl) (own_learns c began b e w)
      ∙ ih (began || begins c (Own e)) b sl conf n (omega (arith, few))

  by_width : (cs : List ℕ) (c : ℕ) (es : List Event) (e : Event) (began : Bool) (b : State) (sl : Slate) → list_any (nat_eq c) cs ≡ true → Claim cs c es → sl.conf ≡ conf_of b → NotOver sl → b.version + length (e ∷ es) ≤ last_version
      → (w : Bool) → is_wide e.kind ≡ w
      → effect answers (place c (knowing began b) (Own e ∷ (if w then map (look_by e) cs ++ undelayed cs es else undelayed cs es))) sl ≡ effect answers (if w || (e.client == c) then e ∷ own c es else own c es) sl
  by_width cs c es e began b sl there ih conf n few true w = wide_case cs c es e began b sl there ih w conf n few
  by_width cs c es e began b sl there ih conf n few false w = own_case cs c es e began b sl ih w conf n few (e.client == c) refl

  at_once : (cs : List ℕ) (c : ℕ) (es : List Event) → list_any (nat_eq c) cs ≡ true → Claim cs c es
  at_once cs c [] there began b sl conf n few = refl
  at_once cs c (e ∷ es) there began b sl conf n few = by_width cs c es e began b sl there (at_once cs c es there) conf n few (is_wide e.kind) refl

  pub at_once_sent : (settings : Settings) (cs : List ℕ) (c : ℕ) (es : List Event) → list_any (nat_eq c) cs ≡ true → length es ≤ last_version → sent answers settings (placed settings c (undelayed cs es)) ≡ sent answers settings (own c es)
  unfolding sent placed
  at_once_sent settings cs c es there few = ap (λ (r : Effect). r.1) (at_once cs c es there false (new_state settings.dgram settings.stream) (fresh (opening settings)) refl (never_open answers (opening settings)) (omega (arith, few)))
