-- What each client is sent for some steps, read off what all are sent.
use Rattle.dns_session.specs.Serving.{Serving}
use Rattle.std.proofs.Common.{◌≡◌, ◌≢◌, ℕ, List, [], ◌∷◌, ◌++◌, Bool, true, false, refl, ap, sym, ◌∙◌, subst, ⊎_elim, ◌⊎◌, inl, inr, append_assoc}
use Rattle.std.specs.Prelude.{nat_eq, filter, if◌then◌else◌, not, ◌&&◌, ◌==◌}
use Rattle.std.specs.List.{list_any}
use Rattle.std.proofs.lemmas.Bool.{cases_eq, eqb-true}
use Rattle.std.proofs.lemmas.List.{append-nil}
use Rattle.dns_events.specs.declared.look.Look.{Look as State}
use Rattle.dns_admission.specs.declared.call.Reply.{Reply}
use Rattle.dns_admission.specs.Machine.{reply_of}
use Rattle.dns_events.specs.declared.event.Event.{Event}
use Rattle.dns_events.specs.declared.event.EventKind.{EventKind}
use Rattle.dns_events.specs.declared.event.EventKind.TheVariants.{Datagram, Offer}
use Rattle.dns_events.specs.declared.event.Output.{Output}
use Rattle.dns_events.specs.declared.event.Step.{Step}
use Rattle.dns_events.specs.declared.event.Step.TheVariants.{Own, Look}
use Rattle.dns_session.specs.After.{slate_after, sent_after}
use Rattle.dns_session.specs.Rule.{rule}
use Rattle.dns_session.specs.Slate.{Slate, fresh}
use Rattle.dns_core.specs.Settings.{opening}
use Rattle.dns_core.specs.Own.{is_wide, concerns}
use Rattle.dns_core.specs.Sent.{sent}
use Rattle.dns_core.specs.Out.{is_unused, put}
use Rattle.dns_core.specs.ByClient.{is_for}
use Rattle.dns_core.specs.Placed.{Knowledge, own_events, is_beginning, looks, puts, learns, place, placed, knows, knowledge_at_first}
use Rattle.dns_core.specs.Outs.{Membership, placed_slate, placed_gain, membership, step_gained, outs, outs_after, call_for, call_at, enters, enters_at, refused_offer, stepping}
use Rattle.dns_events.specs.declared.settings.Settings.{Settings}
use Rattle.dns_core.proofs.Counted.{put_other}
use Rattle.dns_core.proofs.Gained.{concerns_all}
use Rattle.dns_core.proofs.Named.{AreFor, IsOf, for_both, filter_for, filter_others, first_for, of_step, quiet, rule_for, silent_after, still_used, wide_begins_nobody}
use Rattle.dns_core.proofs.OutLemmas.{sent_after_append}
use Rattle.dns_core.proofs.Plain.{unused_is}
use Rattle.dns_core.proofs.Looked.{Enter, entry_wide}
use Rattle.dns_core.proofs.Placing.{slate_append, placed_more, slate_more, gain_more, membership_more}
use Rattle.dns_core.proofs.Tied.{TiedSlate, opens_kind, tied, tied_slate}
use Rattle.dns_core.proofs.Stepping.{Quiet, no_enter, no_refusal, quiet_gain, quiet_slate, other_step}
use Rattle.dns_core.proofs.StepBegins.{met_open, meets}

-- the client hears each of them
abbrev pub Hears : ℕ → List Event → Type 0
Hears c [] = Unit {0}
Hears c (e ∷ es) = (concerns c e ≡ true) × Hears c es

pub hears_both : (c : ℕ) (es fs : List Event) → Hears c es → Hears c fs → Hears c (es ++ fs)
hears_both c [] fs h g = g
hears_both c (e ∷ es) fs h g = (h.0, hears_both c es fs h.1 g)

hears_entries : (c : ℕ) (b : State) (es : List Event) → Enter b es → Hears c es
hears_entries c b [] h = tt
hears_entries c b (e ∷ es) h = (concerns_all c e (entry_wide e.kind b h.0), hears_entries c (Rattle.dns_core.specs.Books.book_rule b e.kind) es h.1)

own_case : (w q : Bool) (c : ℕ) (e : Event) → is_wide e.kind ≡ w → (e.client == c) ≡ q → Hears c (if not w && q then e ∷ [] else [])
own_case false true c e w q = (rw (w, q) refl, tt)
own_case false false c e w q = tt
own_case true q c e w s = tt

hears_own : (c : ℕ) (s : Step) → Hears c (own_events c s)
hears_own c (Own e) = own_case (is_wide e.kind) (e.client == c) c e refl refl
hears_own c (Look at secs d) = tt

pub hears_puts : (c : ℕ) (k : Knowledge) (s : Step) → Enter k.seen k.unheard → Hears c (puts c k s)
hears_puts c k s h = hears_both c (if looks c k.began s then k.unheard else []) (own_events c s) (elim (looks c k.began s) as (λ l. Hears c (if l then k.unheard else [])) [ true ↦ hears_entries c k.seen k.unheard h | false ↦ tt ]) (hears_own c s)

refusal_for : (c : ℕ) (r : Reply) → AreFor c (refused_offer c r)
refusal_for c (Rattle.dns_admission.specs.declared.call.Reply.TheVariants.Admission (Rattle.dns_admission.specs.declared.admission.Admission.TheVariants.Full t l a)) = (refl, tt)
refusal_for c _ = tt

-- who begins, and else what the book replies says nothing and lets nobody in
unfoldable pub Settled : ℕ → EventKind → Slate → Bool → State → Type 0
Settled c k sl m b = ((is_unused sl.phase ≡ true) × (b.closed ≡ false) × (is_beginning k ≡ true)) ⊎ ((refused_offer c (reply_of b (call_for sl m k)) ≡ []) × (enters sl b (reply_of b (call_for sl m k)) k ≡ false))

settle_offer : (u z : Bool) (c : ℕ) (addr : Rattle.dns_name.specs.declared.address.SocketAddr.SocketAddr) (sl : Slate) (m : Bool) (b : State) → is_unused sl.phase ≡ u → b.closed ≡ z → Settled c (Offer addr) sl m b
unfolding Settled
settle_offer true false c addr sl m b u z = inl (u, z, refl)
settle_offer true true c addr sl m b u z = inr (rw (u, z) refl, rw (u, z) refl)
settle_offer false z c addr sl m b u s = inr (rw u refl, rw u refl)

settle_datagram : (u z : Bool) (c : ℕ) (addr : Rattle.dns_name.specs.declared.address.SocketAddr.SocketAddr) (o : List ℕ) (sl : Slate) (m : Bool) (b : State) → is_unused sl.phase ≡ u → b.closed ≡ z → Settled c (Datagram addr o) sl m b
unfolding Settled
settle_datagram true false c addr o sl m b u z = inl (u, z, refl)
settle_datagram true true c addr o sl m b u z = inr (refl, rw (u, z) refl)
settle_datagram false z c addr o sl m b u s = inr (refl, rw u refl)

settle_else : (k : EventKind) (c : ℕ) (sl : Slate) (m : Bool) (b : State) → is_beginning k ≡ false → Settled c k sl m b
unfolding Settled
settle_else k c sl m b n = inr (no_refusal k b sl m c n, no_enter k sl b (reply_of b (call_for sl m k)) n)

pub settle : (k : EventKind) (c : ℕ) (sl : Slate) (m : Bool) (b : State) → Settled c k sl m b
settle (Offer addr) c sl m b = settle_offer (is_unused sl.phase) b.closed c addr sl m b refl refl
settle (Datagram addr o) c sl m b = settle_datagram (is_unused sl.phase) b.closed c addr o sl m b refl refl
settle k c sl m b = settle_else k c sl m b refl

module _ (answers : Serving) where
  -- the slate of a client that hears some events names it
  of_list : (c : ℕ) (es : List Event) (s : Slate) → Hears c es → IsOf c s → IsOf c (slate_after answers s es)
  of_list c [] s h i = i
  of_list c (e ∷ es) s h i = of_list c es (rule answers e s).0 h.1 (of_step answers c e s h.0 i (is_unused s.phase) refl)

  for_wide : (w : Bool) (c : ℕ) (e : Event) (s : Slate) → is_wide e.kind ≡ w → concerns c e ≡ true → is_unused s.phase ≡ true → AreFor c (rule answers e s).1
  for_wide true c e s w h u = let none = quiet answers e s (unused_is s.phase u) (wide_begins_nobody answers e s w u) in rw none tt
  for_wide false c e s w h u = let same : e.client ≡ c = eqb-true e.client c (rw w at h) in subst (λ (d : ℕ). AreFor d (rule answers e s).1) same (first_for answers e s (unused_is s.phase u))

  for_one : (u : Bool) (c : ℕ) (e : Event) (s : Slate) → is_unused s.phase ≡ u → concerns c e ≡ true → IsOf c s → AreFor c (rule answers e s).1
  for_one true c e s u h i = for_wide (is_wide e.kind) c e s refl h u
  for_one false c e s u h i = subst (λ (d : ℕ). AreFor d (rule answers e s).1) (i u) (rule_for answers e s u)

  for_list : (c : ℕ) (es : List Event) (s : Slate) → Hears c es → IsOf c s → AreFor c (sent_after answers s es)
  for_list c [] s h i = tt
  for_list c (e ∷ es) s h i = for_both c (rule answers e s).1 (sent_after answers (rule answers e s).0 es) (for_one (is_unused s.phase) c e s refl h.0 i) (for_list c es (rule answers e s).0 h.1 (of_step answers c e s h.0 i (is_unused s.phase) refl))

  of_after : (c : ℕ) (k : Knowledge) (sl : Slate) (q : List Step) → TiedSlate answers k sl → IsOf c sl → IsOf c (slate_after answers sl (place c k q))
  of_after c k sl [] t i = i
  of_after c k sl (s ∷ q) t i =
      rw (slate_append answers (puts c k s) (place c (learns c k s) q) sl)
      (of_after c (learns c k s) (slate_after answers sl (puts c k s)) q (tied_slate answers c k s sl t) (of_list c (puts c k s) sl (hears_puts c k s t.enter) i))

  module _ (settings : Settings) where
    opening_tied : (c : ℕ) → TiedSlate answers (knowledge_at_first settings) (fresh (opening settings))
    unfolding knows placed_slate placed
    opening_tied c = (tied answers settings c []).slate

    pub of_placed : (c : ℕ) (q : List Step) → IsOf c (placed_slate answers settings c q)
    unfolding placed_slate placed
    of_placed c q = of_after c (knowledge_at_first settings) (fresh (opening settings)) q (opening_tied c) (λ u. cc)

    pub gain_for : (c : ℕ) (q : List Step) (s : Step) → AreFor c (placed_gain answers settings c q s)
    gain_for c q s = rw (gain_more answers settings c q s) (for_list c (puts c (knows settings c q) s) (placed_slate answers settings c q) (hears_puts c (knows settings c q) s (tied answers settings c q).slate.enter) (of_placed c q))

    -- what is sent for a step is for its client
    pub step_for : (q : List Step) (s : Step) → AreFor (stepping s) (step_gained answers settings q s)
    step_for q s = (elim (list_any (nat_eq (stepping s)) (membership answers settings (q ++ s ∷ [])).members) as (λ b. AreFor (stepping s) (if b then placed_gain answers settings (stepping s) q s else refused_offer (stepping s) (reply_of (membership answers settings q).book (call_at answers settings q (membership answers settings q).members s)))) [ true ↦ gain_for (stepping s) q s | false ↦ refusal_for (stepping s) (reply_of (membership answers settings q).book (call_at answers settings q (membership answers settings q).members s)) ])

    abbrev pub joined : ℕ → List Step → Bool
    joined c q = list_any (nat_eq c) (membership answers settings q).members

    pub joined_by : (b : Bool) (c : ℕ) (q : List Step) (s : Step) → enters_at answers settings q (membership answers settings q) s ≡ b → joined c (q ++ s ∷ []) ≡ list_any (nat_eq c) (if b then put (stepping s) (membership answers settings q).members else (membership answers settings q).members)
    joined_by b c q s h = ap (λ (x : Membership). list_any (nat_eq c) x.members) (membership_more answers settings q s) ∙ rw h refl

    pub joined_other : (c : ℕ) (q : List Step) (s : Step) → c ≢ stepping s → joined c (q ++ s ∷ []) ≡ joined c q
    joined_other c q s apart = by (enters_at answers settings q (membership answers settings q) s) refl
      where
        by : (b : Bool) → enters_at answers settings q (membership answers settings q) s ≡ b → joined c (q ++ s ∷ []) ≡ joined c q
        by true h = joined_by true c q s h ∙ put_other c (stepping s) (membership answers settings q).members apart
        by false h = joined_by false c q s h

    pub used_stays : (c : ℕ) (q : List Step) (s : Step) → is_unused (placed_slate answers settings c q).phase ≡ false → is_unused (placed_slate answers settings c (q ++ s ∷ [])).phase ≡ false
    used_stays c q s u = rw (slate_more answers settings c q s) (still_used answers (puts c (knows settings c q) s) (placed_slate answers settings c q) u)

    -- nothing was sent to a client that didn't begin
    pub nothing_yet : (c : ℕ) (q : List Step) → is_unused (placed_slate answers settings c q).phase ≡ true → sent answers settings (placed settings c q) ≡ []
    unfolding sent placed_slate
    nothing_yet c q u = silent_after answers (placed settings c q) (fresh (opening settings)) refl u

    pub sent_step : (c : ℕ) (q : List Step) (s : Step) → sent answers settings (placed settings c (q ++ s ∷ [])) ≡ sent answers settings (placed settings c q) ++ placed_gain answers settings c q s
    unfolding sent placed_slate
    sent_step c q s =
        ap (sent_after answers (fresh (opening settings))) (placed_more settings c q s)
        ∙ sent_after_append answers (fresh (opening settings)) (placed settings c q) (puts c (knows settings c q) s)
        ∙ ap (λ os. sent_after answers (fresh (opening settings)) (placed settings c q) ++ os) (sym (gain_more answers settings c q s))

    -- who begins at an open book is used then
    pub opens : (q : List Step) (e : Event) → is_beginning e.kind ≡ true → is_unused (placed_slate answers settings e.client q).phase ≡ true → (membership answers settings q).book.closed ≡ false → is_unused (placed_slate answers settings e.client (q ++ Own e ∷ [])).phase ≡ false
    opens q e k u cl =
        let m = meets answers settings q e k u in
        let o = met_open answers settings q e k u cl in
        ap (λ (s : Slate). is_unused s.phase) m.slate ∙ opens_kind answers e.kind e (Rattle.dns_core.proofs.StepBegins.met answers settings q e) refl k (unused_is (Rattle.dns_core.proofs.StepBegins.met answers settings q e).phase m.unused) o.not_over

    unfoldable pub Comes : ℕ → List Step → Step → Type 0
    Comes c q s = ((is_unused (placed_slate answers settings c q).phase ≡ true) × (is_unused (placed_slate answers settings c (q ++ s ∷ [])).phase ≡ false))
        ⊎ ((refused_offer c (reply_of (membership answers settings q).book (call_at answers settings q (membership answers settings q).members s)) ≡ []) × (enters_at answers settings q (membership answers settings q) s ≡ false))

    pub comes : (q : List Step) (s : Step) → Comes (stepping s) q s
    unfolding Comes Settled
    comes q (Own e) = ⊎_elim
        (λ (x : (is_unused (placed_slate answers settings e.client q).phase ≡ true) × ((membership answers settings q).book.closed ≡ false) × (is_beginning e.kind ≡ true)). inl (x.0, opens q e x.2 x.0 x.1))
        (λ (y : (refused_offer e.client (reply_of (membership answers settings q).book (call_at answers settings q (membership answers settings q).members (Own e))) ≡ []) × (enters_at answers settings q (membership answers settings q) (Own e) ≡ false)). inr y)
        (settle e.kind e.client (placed_slate answers settings e.client q) (list_any (nat_eq e.client) (membership answers settings q).members) (membership answers settings q).book)
    comes q (Look at secs d) = inr (refl, refl)

    -- what a client was sent of all that was sent
    pub record Owns (c : ℕ) (q : List Step) (all : List Output) : Type 0 where
      pub member : joined c q ≡ true → filter (is_for c) all ≡ sent answers settings (placed settings c q)
      pub unused : is_unused (placed_slate answers settings c q).phase ≡ true → (filter (is_for c) all ≡ []) × (joined c q ≡ false)

    pub filter_both : (c : ℕ) (xs ys : List Output) → filter (is_for c) (xs ++ ys) ≡ filter (is_for c) xs ++ filter (is_for c) ys
    filter_both c [] ys = refl
    filter_both c (x ∷ xs) ys = (elim (is_for c x) as (λ b. (if b then x ∷ filter (is_for c) (xs ++ ys) else filter (is_for c) (xs ++ ys)) ≡ (if b then x ∷ filter (is_for c) xs else filter (is_for c) xs) ++ filter (is_for c) ys) [ true ↦ ap (λ os. x ∷ os) (filter_both c xs ys) | false ↦ filter_both c xs ys ])

    quiet_owns : (c : ℕ) (q : List Step) (s : Step) (all : List Output) → Quiet c (knows settings c q) s → filter (is_for c) (step_gained answers settings q s) ≡ [] → joined c (q ++ s ∷ []) ≡ joined c q → Owns c q all → Owns c (q ++ s ∷ []) (all ++ step_gained answers settings q s)
    quiet_owns c q s all qu none same h =
        let still = quiet_slate answers settings c q s qu in
        let fe : filter (is_for c) (all ++ step_gained answers settings q s) ≡ filter (is_for c) all = filter_both c all (step_gained answers settings q s) ∙ ap (λ os. filter (is_for c) all ++ os) none ∙ append-nil (filter (is_for c) all) in
        let se : sent answers settings (placed settings c (q ++ s ∷ [])) ≡ sent answers settings (placed settings c q) = sent_step c q s ∙ ap (λ os. sent answers settings (placed settings c q) ++ os) (quiet_gain answers settings c q s qu) ∙ append-nil (sent answers settings (placed settings c q)) in
        record {
          member = λ m. fe ∙ h.member (sym same ∙ m) ∙ sym se;
          unused = λ u. let x = h.unused (sym (ap (λ (t : Slate). is_unused t.phase) still) ∙ u) in (fe ∙ x.0, same ∙ x.1);
        }

    gains : (q : List Step) (s : Step) → joined (stepping s) (q ++ s ∷ []) ≡ true → filter (is_for (stepping s)) (step_gained answers settings q s) ≡ placed_gain answers settings (stepping s) q s
    gains q s m = rw m (filter_for (stepping s) (placed_gain answers settings (stepping s) q s) (gain_for (stepping s) q s))

    member_case : (b u : Bool) (q : List Step) (s : Step) (all : List Output) → joined (stepping s) q ≡ b → is_unused (placed_slate answers settings (stepping s) q).phase ≡ u → joined (stepping s) (q ++ s ∷ []) ≡ true → Owns (stepping s) q all
        → filter (is_for (stepping s)) all ≡ sent answers settings (placed settings (stepping s) q)
    unfolding Comes
    member_case true u q s all was is m h = h.member was
    member_case false true q s all was is m h = (h.unused is).0 ∙ sym (nothing_yet (stepping s) q is)
    member_case false false q s all was is m h = ⊎_elim
        (λ (x : (is_unused (placed_slate answers settings (stepping s) q).phase ≡ true) × (is_unused (placed_slate answers settings (stepping s) (q ++ s ∷ [])).phase ≡ false)). let z = x.0 in cc)
        (λ (y : (refused_offer (stepping s) (reply_of (membership answers settings q).book (call_at answers settings q (membership answers settings q).members s)) ≡ []) × (enters_at answers settings q (membership answers settings q) s ≡ false)). let z = joined_by false (stepping s) q s y.1 in cc)
        (comes q s)

    unused_before : (u : Bool) (q : List Step) (s : Step) → is_unused (placed_slate answers settings (stepping s) q).phase ≡ u → is_unused (placed_slate answers settings (stepping s) (q ++ s ∷ [])).phase ≡ true → is_unused (placed_slate answers settings (stepping s) q).phase ≡ true
    unused_before true q s is u = is
    unused_before false q s is u = let z = used_stays (stepping s) q s is in cc

    unused_case : (q : List Step) (s : Step) (all : List Output) → is_unused (placed_slate answers settings (stepping s) (q ++ s ∷ [])).phase ≡ true → Owns (stepping s) q all
        → (filter (is_for (stepping s)) (all ++ step_gained answers settings q s) ≡ []) × (joined (stepping s) (q ++ s ∷ []) ≡ false)
    unfolding Comes
    unused_case q s all u h =
        let was = h.unused (unused_before (is_unused (placed_slate answers settings (stepping s) q).phase) q s refl u) in
        ⊎_elim
        (λ (x : (is_unused (placed_slate answers settings (stepping s) q).phase ≡ true) × (is_unused (placed_slate answers settings (stepping s) (q ++ s ∷ [])).phase ≡ false)). let z = x.1 in cc)
        (λ (y : (refused_offer (stepping s) (reply_of (membership answers settings q).book (call_at answers settings q (membership answers settings q).members s)) ≡ []) × (enters_at answers settings q (membership answers settings q) s ≡ false)).
        let out : joined (stepping s) (q ++ s ∷ []) ≡ false = joined_by false (stepping s) q s y.1 ∙ was.1 in
        let none : step_gained answers settings q s ≡ [] = rw out y.0 in
        (ap (λ os. filter (is_for (stepping s)) (all ++ os)) none ∙ ap (filter (is_for (stepping s))) (append-nil all) ∙ was.0, out))
        (comes q s)

    -- a step of the client itself
    same_owns : (q : List Step) (s : Step) (all : List Output) → Owns (stepping s) q all → Owns (stepping s) (q ++ s ∷ []) (all ++ step_gained answers settings q s)
    same_owns q s all h =
        let c = stepping s in
        record {
          member = λ m.
              filter_both c all (step_gained answers settings q s)
              ∙ ap (λ os. filter (is_for c) all ++ os) (gains q s m)
              ∙ ap (λ os. os ++ placed_gain answers settings c q s) (member_case (joined c q) (is_unused (placed_slate answers settings c q).phase) q s all refl refl m h)
              ∙ sym (sent_step c q s);
          unused = λ u. unused_case q s all u h;
        }

    owns_more : (c : ℕ) (q : List Step) (s : Step) (all : List Output) → Owns c q all → Owns c (q ++ s ∷ []) (all ++ step_gained answers settings q s)
    owns_more c q s all h = ⊎_elim
        (λ (same : c ≡ stepping s). subst (λ (d : ℕ). Owns d (q ++ s ∷ []) (all ++ step_gained answers settings q s)) (sym same) (same_owns q s all (subst (λ (d : ℕ). Owns d q all) same h)))
        (λ (apart : c ≢ stepping s). quiet_owns c q s all (other_step c (knows settings c q) s apart) (filter_others c (stepping s) (step_gained answers settings q s) (step_for q s) apart) (joined_other c q s apart) h)
        (cases_eq c (stepping s))

    owns_after : (c : ℕ) (p q : List Step) (all : List Output) → Owns c p all → Owns c (p ++ q) (all ++ outs_after answers settings p q)
    owns_after c p [] all h = rw (append-nil p, append-nil all) h
    owns_after c p (s ∷ q) all h =
        let more = owns_after c (p ++ s ∷ []) q (all ++ step_gained answers settings p s) (owns_more c p s all h) in
        rw (← append_assoc p (s ∷ []) q, ← append_assoc all (step_gained answers settings p s) (outs_after answers settings (p ++ s ∷ []) q)) more

    pub owns : (c : ℕ) (q : List Step) → Owns c q (outs answers settings q)
    unfolding outs membership placed_slate placed sent
    owns c q = owns_after c [] q [] (record { member = λ m. let z : false ≡ true = m in cc; unused = λ u. (refl, refl) })
