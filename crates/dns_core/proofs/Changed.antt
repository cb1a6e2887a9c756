-- A client hears its own events, in order, and each change of the server once, in order.
use Rattle.std.proofs.Common.{◌≡◌, ℕ, List, [], ◌∷◌, ◌++◌, Bool, true, false, refl, ap, sym, ◌∙◌, append_assoc}
use Rattle.std.specs.Prelude.{filter, if◌then◌else◌, not, ◌&&◌, ◌==◌}
use Rattle.std.specs.List.{flat_map}
use Rattle.std.proofs.lemmas.Bool.{eq-eqb, and_parts}
use Rattle.std.proofs.lemmas.List.{append-nil}
use Rattle.std.proofs.lemmas.List.Elements.{filter-append}
use Rattle.dns_events.specs.declared.look.Look.{Look as State}
use Rattle.dns_events.specs.declared.event.Event.{Event}
use Rattle.dns_events.specs.declared.event.EventKind.{EventKind}
use Rattle.dns_events.specs.declared.event.EventKind.TheVariants.{Datagram, Offer}
use Rattle.dns_events.specs.declared.event.Step.{Step}
use Rattle.dns_events.specs.declared.event.Step.TheVariants.{Own, Look}
use Rattle.dns_core.specs.Own.{is_wide}
use Rattle.dns_core.specs.Books.{book_rule, books, is_entry}
use Rattle.dns_core.specs.Changes.{changes, changes_from}
use Rattle.dns_core.specs.Placed.{Knowledge, begins, book_now, entries, is_beginning, knows, learned, learns, looks, knowledge_at_first, own_events, place, placed, puts}
use Rattle.dns_events.specs.declared.settings.Settings.{Settings}
use Rattle.dns_core.proofs.Looked.{Enter, entry_wide}
use Rattle.dns_core.proofs.Placing.{knows_more}
use Rattle.dns_core.proofs.Tied.{books_entries, enter_learns, now_learns}

-- of all clients, and of one alone
abbrev wides : List Event → List Event
wides es = filter (λ e. is_wide e.kind) es

abbrev owns : List Event → List Event
owns es = filter (λ e. not (is_wide e.kind)) es

-- entries are for all
wide_entries : (b : State) (es : List Event) → Enter b es → (wides es ≡ es) × (owns es ≡ [])
wide_entries b [] h = (refl, refl)
wide_entries b (e ∷ es) h =
    let w = entry_wide e.kind b h.0 in
    let more = wide_entries (book_rule b e.kind) es h.1 in
    (rw (w, more.0) refl, rw (w, more.1) refl)

own_case : (w q : Bool) (e : Event) → is_wide e.kind ≡ w → (wides (if not w && q then e ∷ [] else []) ≡ []) × (owns (if not w && q then e ∷ [] else []) ≡ (if not w && q then e ∷ [] else []))
own_case false true e w = (rw w refl, rw w refl)
own_case false false e w = (refl, refl)
own_case true q e w = (refl, refl)

narrow_own : (c : ℕ) (s : Step) → (wides (own_events c s) ≡ []) × (owns (own_events c s) ≡ own_events c s)
narrow_own c (Own e) = own_case (is_wide e.kind) (e.client == c) e refl
narrow_own c (Look at secs d) = (refl, refl)

heard_case : (l : Bool) (k : Knowledge) → Enter k.seen k.unheard → (wides (if l then k.unheard else []) ≡ (if l then k.unheard else [])) × (owns (if l then k.unheard else []) ≡ [])
heard_case true k h = wide_entries k.seen k.unheard h
heard_case false k h = (refl, refl)

-- a step that looks enters nothing
no_entry_kind : (k : EventKind) (b : State) → is_beginning k ≡ true → is_entry b k ≡ false
no_entry_kind (Offer addr) b h = refl
no_entry_kind (Datagram addr o) b h = refl
no_entry_kind _ b h = cc

look_enters : (c : ℕ) (began : Bool) (b : State) (s : Step) → looks c began s ≡ true → entries b s ≡ []
look_enters c began b (Own e) h = let n = no_entry_kind e.kind b (and_parts (is_beginning e.kind) (e.client == c) (and_parts (begins c (Own e)) (not began) h).0).0 in rw n refl
look_enters c began b (Look at secs d) h = refl

-- what is heard, and then what is unheard and comes
step_case : (l : Bool) (c : ℕ) (k : Knowledge) (s : Step) (rest : List Event) → looks c k.began s ≡ l
    → (if l then k.unheard else []) ++ ((if l then [] else k.unheard ++ entries (book_now k) s) ++ rest) ≡ k.unheard ++ (entries (book_now k) s ++ rest)
step_case true c k s rest h = let n = look_enters c k.began (book_now k) s h in rw n refl
step_case false c k s rest h = append_assoc k.unheard (entries (book_now k) s) rest

heard_from : (c : ℕ) (ss : List Step) (k : Knowledge) → Enter k.seen k.unheard → wides (place c k ss) ++ (learned c k ss).unheard ≡ k.unheard ++ changes_from (book_now k) ss
heard_from c [] k h = sym (append-nil k.unheard)
heard_from c (s ∷ ss) k h =
    let l = looks c k.began s in
    let k' = learns c k s in
    let rest = changes_from (books (book_now k) (entries (book_now k) s)) ss in
    let put : wides (puts c k s) ≡ (if l then k.unheard else []) =
    filter-append (λ (e : Event). is_wide e.kind) (if l then k.unheard else []) (own_events c s) ∙ ap (λ es. es ++ wides (own_events c s)) (heard_case l k h).0 ∙ ap (λ es. (if l then k.unheard else []) ++ es) (narrow_own c s).0 ∙ append-nil (if l then k.unheard else []) in
    ap (λ es. es ++ (learned c k' ss).unheard) (filter-append (λ (e : Event). is_wide e.kind) (puts c k s) (place c k' ss))
    ∙ append_assoc (wides (puts c k s)) (wides (place c k' ss)) (learned c k' ss).unheard
    ∙ ap (λ es. es ++ (wides (place c k' ss) ++ (learned c k' ss).unheard)) put
    ∙ ap (λ es. (if l then k.unheard else []) ++ es) (heard_from c ss k' (enter_learns c k s h) ∙ ap (λ b. k'.unheard ++ changes_from b ss) (now_learns c k s ∙ sym (books_entries (book_now k) s)))
    ∙ step_case l c k s rest refl

owns_from : (c : ℕ) (ss : List Step) (k : Knowledge) → Enter k.seen k.unheard → owns (place c k ss) ≡ flat_map (own_events c) ss
owns_from c [] k h = refl
owns_from c (s ∷ ss) k h =
    let l = looks c k.began s in
    filter-append (λ (e : Event). not (is_wide e.kind)) (puts c k s) (place c (learns c k s) ss)
    ∙ ap (λ es. es ++ owns (place c (learns c k s) ss)) (filter-append (λ (e : Event). not (is_wide e.kind)) (if l then k.unheard else []) (own_events c s) ∙ ap (λ es. es ++ owns (own_events c s)) (heard_case l k h).1 ∙ (narrow_own c s).1)
    ∙ ap (λ es. own_events c s ++ es) (owns_from c ss (learns c k s) (enter_learns c k s h))

pub placed_changes : (settings : Settings) (c : ℕ) (steps : List Step) → wides (placed settings c steps) ++ (knows settings c steps).unheard ≡ changes settings steps
unfolding placed knows
placed_changes settings c steps = heard_from c steps (knowledge_at_first settings) tt

pub placed_owns : (settings : Settings) (c : ℕ) (steps : List Step) → owns (placed settings c steps) ≡ flat_map (own_events c) steps
unfolding placed
placed_owns settings c steps = owns_from c steps (knowledge_at_first settings) tt

-- after a look nothing is unheard
pub look_hears : (settings : Settings) (c at secs : ℕ) (q : List Step) → (knows settings c (q ++ Look at secs c ∷ [])).unheard ≡ []
look_hears settings c at secs q = let self = eq-eqb c c refl in ap (λ (k : Knowledge). k.unheard) (knows_more settings c q (Look at secs c)) ∙ rw self refl
