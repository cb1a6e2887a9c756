-- Steps that change nothing for anybody.
use Rattle.dns_session.specs.Serving.{Serving}
use Rattle.std.proofs.Common.{◌≡◌, ◌≢◌, ℕ, List, [], ◌∷◌, ◌++◌, Bool, true, false, refl, ap, sym, ◌∙◌, ⊎_elim}
use Rattle.std.specs.Prelude.{nat_eq, if◌then◌else◌, not, ◌&&◌, ◌||◌, ◌==◌}
use Rattle.std.specs.List.{list_any}
use Rattle.std.proofs.lemmas.Bool.{cases_eq, eq-eqb, ne_eqb}
use Rattle.std.proofs.lemmas.List.{append-nil}
use Rattle.std.proofs.Math.Bool.{or-false, and-false}
use Rattle.dns_core.proofs.Gained.{unused_as_before}
use Rattle.dns_events.specs.declared.look.Look.{Look as State}
use Rattle.dns_admission.specs.declared.call.Call.TheVariants as call
use Rattle.dns_admission.specs.Machine.{reply_of, state_after}
use Rattle.dns_events.specs.declared.event.Event.{Event}
use Rattle.dns_events.specs.declared.event.EventKind.{EventKind}
use Rattle.dns_events.specs.declared.event.EventKind.TheVariants.{Datagram, Offer, Release, Reconfigure, Shutdown}
use Rattle.dns_events.specs.declared.event.Step.{Step}
use Rattle.dns_events.specs.declared.event.Step.TheVariants.{Own, Look}
use Rattle.dns_session.specs.After.{slate_after, sent_after}
use Rattle.dns_session.specs.Rule.{rule}
use Rattle.dns_session.specs.Slate.{Slate, Effect, Phase, Closed, fresh, phase_is_closed}
use Rattle.dns_core.specs.Settings.{opening}
use Rattle.dns_core.specs.Own.{is_wide}
use Rattle.dns_core.specs.Out.{is_unused, put}
use Rattle.dns_core.specs.Books.{is_entry}
use Rattle.dns_core.specs.Placed.{Knowledge, book_now, begins, is_beginning, looks, puts, learns, knows, placed}
use Rattle.dns_core.specs.Outs.{Membership, placed_slate, placed_gain, membership, step_gained, outs, call_for, call_at, enters, enters_at, refused_offer, stepping}
use Rattle.dns_core.specs.StepsByClient.{is_first}
use Rattle.dns_events.specs.declared.settings.Settings.{Settings}
use Rattle.dns_core.proofs.AtOnce.{own_no_entry}
use Rattle.dns_core.proofs.Plain.{closed_idle}
use Rattle.dns_core.proofs.Settled.{Settled, nothing_received, settled_after}
use Rattle.dns_core.proofs.Placing.{knows_more, slate_more, gain_more, membership_more}
use Rattle.dns_core.proofs.Tied.{tied, no_entry, untaken, wide_no_beginning}
use Rattle.dns_core.proofs.Stepping.{look_quiet, no_refusal, other_quiet, own_enters, own_gain, own_slate, quiet_gain, quiet_slate, wide_call, wide_quiet}
use Rattle.dns_core.proofs.StepBegins.{begin_narrow, begin_used, closed_refuses, used_call, used_enters, Refuses}
use Rattle.dns_core.proofs.StepsByClient.{joined, opens, used_stays}
use Rattle.dns_core.proofs.StepsAlike.{member_used, skipped, still_unused, unused_after, unused_look}

-- what one knows that hears nothing of what is no entry
known : (k : Knowledge) (b : Bool) (es : List Event) → b ≡ k.began → es ≡ k.unheard → (let x : Knowledge = record { began = b; seen = k.seen; unheard = es } in x) ≡ k
known k b es is same = ap (λ z. let x : Knowledge = record { began = z; seen = k.seen; unheard = es } in x) is ∙ ap (λ z. let x : Knowledge = record { began = k.began; seen = k.seen; unheard = z } in x) same

-- ---- an event of one client that changes nothing of it, if it is a member: what the book is asked changes nothing
passes_by : (k : EventKind) (sl : Slate) (m : Bool) (b : State) → call_for sl m k ≡ call.Look → enters sl b (reply_of b call.Look) k ≡ false → Refuses k sl m b
passes_by k sl m b is n = record { state = rw is refl; says = λ c. rw is refl; enters = rw is n }

module _ (answers : Serving) where
  -- a release that changes nothing finds nothing to give back
  release_case : (z m : Bool) (e : Event) (sl : Slate) → e.kind ≡ Release → (m ≡ true → rule answers e sl ≡ (sl, [])) → (m && (phase_is_closed sl.phase && not sl.freed)) ≡ z → z ≡ false
  release_case false m e sl is idle h = refl
  release_case true true e sl is idle h = by sl.phase refl sl.freed refl h
    where
      by : (p : Phase) → sl.phase ≡ p → (f : Bool) → sl.freed ≡ f → (phase_is_closed p && not f) ≡ true → true ≡ false
      by Closed p false f g = let i : rule answers e sl ≡ (sl, []) = idle refl in let r : (rule answers e sl).0.freed ≡ true = rw (is, p) refl in sym r ∙ ap (λ (t : Effect). t.0.freed) i ∙ f
      by Closed p true f g = cc
      by _ p f s g = cc
  release_case true false e sl is idle h = cc

  narrow_passes : (k : EventKind) (e : Event) (sl : Slate) (m : Bool) (b : State) → e.kind ≡ k → is_wide k ≡ false → is_beginning k ≡ false → (m ≡ true → rule answers e sl ≡ (sl, [])) → Refuses k sl m b
  narrow_passes (Offer addr) e sl m b is w n idle = cc
  narrow_passes (Datagram addr o) e sl m b is w n idle = cc
  narrow_passes (Reconfigure d t) e sl m b is w n idle = cc
  narrow_passes Shutdown e sl m b is w n idle = cc
  narrow_passes Release e sl m b is w n idle =
      let h : (m && (phase_is_closed sl.phase && not sl.freed)) ≡ false = release_case (m && (phase_is_closed sl.phase && not sl.freed)) m e sl is idle refl in
      passes_by Release sl m b (rw h refl) refl
  narrow_passes k e sl m b is w n idle = passes_by k sl m b refl refl

  module _ (settings : Settings) where
    open_case : (z : Bool) (q : List Step) (e : Event) → is_beginning e.kind ≡ true → is_unused (placed_slate answers settings e.client q).phase ≡ true → is_first answers settings q e ≡ false → (membership answers settings q).book.closed ≡ z → z ≡ true
    unfolding is_first
    open_case true q e k u n cl = refl
    open_case false q e k u n cl = let o = opens answers settings q e k u cl in let z : true ≡ false = rw (u, o) at n in cc

    beginning_passes : (u : Bool) (q : List Step) (e : Event) → is_beginning e.kind ≡ true → is_first answers settings q e ≡ false → is_unused (placed_slate answers settings e.client q).phase ≡ u
        → Refuses e.kind (placed_slate answers settings e.client q) (joined answers settings e.client q) (membership answers settings q).book
    beginning_passes true q e k n u =
        let b = (membership answers settings q).book in
        let r = closed_refuses e.kind (placed_slate answers settings e.client q) (joined answers settings e.client q) b k u (open_case b.closed q e k u n refl) in
        record { state = r.state; says = r.says; enters = r.enters }
    beginning_passes false q e k n u =
        let sl = placed_slate answers settings e.client q in
        let b = (membership answers settings q).book in
        passes_by e.kind sl (joined answers settings e.client q) b (used_call e.kind sl (joined answers settings e.client q) k u) (used_enters e.kind sl b k u)

    passes_case : (k : Bool) (q : List Step) (e : Event) → is_wide e.kind ≡ false → is_beginning e.kind ≡ k → is_first answers settings q e ≡ false
        → (joined answers settings e.client q ≡ true → rule answers e (placed_slate answers settings e.client q) ≡ (placed_slate answers settings e.client q, []))
        → Refuses e.kind (placed_slate answers settings e.client q) (joined answers settings e.client q) (membership answers settings q).book
    passes_case true q e w k n idle = beginning_passes (is_unused (placed_slate answers settings e.client q).phase) q e k n refl
    passes_case false q e w k n idle = narrow_passes e.kind e (placed_slate answers settings e.client q) (joined answers settings e.client q) (membership answers settings q).book refl w k idle

    -- ---- what is known after it
    no_new : (c : ℕ) (k : Knowledge) (e : Event) → is_wide e.kind ≡ false → looks c k.began (Own e) ≡ false → (k.began || begins c (Own e)) ≡ k.began → learns c k (Own e) ≡ k
    no_new c k e w l b = let n = own_no_entry e.kind (book_now k) w in rw (l, n) (known k (k.began || begins c (Own e)) (k.unheard ++ []) b (append-nil k.unheard))

    pub begun_knows : (c : ℕ) (k : Knowledge) (e : Event) → is_wide e.kind ≡ false → k.began ≡ true → learns c k (Own e) ≡ k
    begun_knows c k e w b = no_new c k e w (rw b (and-false (begins c (Own e)))) (rw b refl)

    pub other_knows : (c : ℕ) (k : Knowledge) (e : Event) → is_wide e.kind ≡ false → c ≢ e.client → learns c k (Own e) ≡ k
    other_knows c k e w apart =
        let q = other_quiet c k e apart in
        let d : (e.client == c) ≡ false = ne_eqb e.client c (λ h. apart (sym h)) in
        let b : begins c (Own e) ≡ false = rw d (and-false (is_beginning e.kind)) in
        no_new c k e w q.looks (rw b (or-false k.began))

    pub look_knows : (c at secs d : ℕ) (k : Knowledge) → c ≢ d → learns c k (Look at secs d) ≡ k
    look_knows c at secs d k apart =
        let n : (d == c) ≡ false = ne_eqb d c (λ h. apart (sym h)) in
        rw n (known k (k.began || false) (k.unheard ++ []) (or-false k.began) (append-nil k.unheard))

    pub membership_kept : (q : List Step) (s : Step) → enters_at answers settings q (membership answers settings q) s ≡ false → state_after (membership answers settings q).book (call_at answers settings q (membership answers settings q).members s) ≡ (membership answers settings q).book
        → membership answers settings (q ++ s ∷ []) ≡ membership answers settings q
    membership_kept q s n b =
        let h = membership answers settings q in
        let after : State → List ℕ → Membership = λ x ms. record { book = x; members = ms } in
        membership_more answers settings q s ∙ ap (λ x. after (state_after h.book (call_at answers settings q h.members s)) (if x then put (stepping s) h.members else h.members)) n ∙ ap (λ x. after x h.members) b

    -- an event of one client by which it doesn't begin, and that changes nothing of it, if it is a member, changes nothing at all
    pub nothing : (q r : List Step) (e : Event) → is_wide e.kind ≡ false → is_first answers settings q e ≡ false
        → (joined answers settings e.client q ≡ true → rule answers e (placed_slate answers settings e.client q) ≡ (placed_slate answers settings e.client q, []))
        → outs answers settings (q ++ Own e ∷ r) ≡ outs answers settings (q ++ r)
    unfolding is_first
    nothing q r e w n idle =
        let c = e.client in
        let s = Own e in
        let p = passes_case (is_beginning e.kind) q e w refl n idle in
        let same = membership_kept q s p.enters p.state in
        let now : (d : ℕ) → joined answers settings d (q ++ s ∷ []) ≡ joined answers settings d q = λ d. ap (λ (x : Membership). list_any (nat_eq d) x.members) same in
        let no_look : joined answers settings c q ≡ true → looks c (knows settings c q).began s ≡ false = λ m. let b = (tied answers settings c q).slate.begun (member_used answers settings c q m) in rw b (and-false (begins c s)) in
        skipped answers settings q r s (by (joined answers settings c q) refl) (record {
          same_membership = same;
          same_unused = λ d. ⊎_elim
              (λ (i : d ≡ c). rw i (unused_as_before (is_unused (placed_slate answers settings c q).phase) (is_unused (placed_slate answers settings c (q ++ s ∷ [])).phase) n (used_stays answers settings c q s)))
              (λ (apart : d ≢ c). ap (λ (x : Slate). is_unused x.phase) (quiet_slate answers settings d q s (other_quiet d (knows settings d q) e apart)))
              (cases_eq d c);
          same_slates = λ d there. ⊎_elim
              (λ (i : d ≡ c). let m : joined answers settings c q ≡ true = rw i at (sym (now d) ∙ there) in rw i (own_slate answers settings q e w (no_look m) ∙ ap (λ (t : Effect). t.0) (idle m)))
              (λ (apart : d ≢ c). quiet_slate answers settings d q s (other_quiet d (knows settings d q) e apart))
              (cases_eq d c);
          same_knows = λ d there. ⊎_elim
              (λ (i : d ≡ c). let m : joined answers settings c q ≡ true = rw i at (sym (now d) ∙ there) in rw i (knows_more settings c q s ∙ begun_knows c (knows settings c q) e w ((tied answers settings c q).slate.begun (member_used answers settings c q m))))
              (λ (apart : d ≢ c). knows_more settings d q s ∙ other_knows d (knows settings d q) e w apart)
              (cases_eq d c);
        })
      where
        by : (b : Bool) → joined answers settings e.client q ≡ b → step_gained answers settings q (Own e) ≡ []
        by true m =
            let p = passes_case (is_beginning e.kind) q e w refl n idle in
            let b = (tied answers settings e.client q).slate.begun (member_used answers settings e.client q m) in
            let l : looks e.client (knows settings e.client q).began (Own e) ≡ false = rw b (and-false (begins e.client (Own e))) in
            let now : joined answers settings e.client (q ++ Own e ∷ []) ≡ true = ap (λ (x : Membership). list_any (nat_eq e.client) x.members) (membership_kept q (Own e) p.enters p.state) ∙ m in
            rw now (own_gain answers settings q e w l ∙ ap (λ (t : Effect). t.1) (idle m))
        by false m =
            let p = passes_case (is_beginning e.kind) q e w refl n idle in
            let now : joined answers settings e.client (q ++ Own e ∷ []) ≡ false = ap (λ (x : Membership). list_any (nat_eq e.client) x.members) (membership_kept q (Own e) p.enters p.state) ∙ m in
            rw now (p.says e.client)

    -- ---- looks
    pub gain_or_not : (b : Bool) (q : List Step) (s : Step) → joined answers settings (stepping s) (q ++ s ∷ []) ≡ b → (b ≡ true → placed_gain answers settings (stepping s) q s ≡ [])
        → refused_offer (stepping s) (reply_of (membership answers settings q).book (call_at answers settings q (membership answers settings q).members s)) ≡ [] → step_gained answers settings q s ≡ []
    gain_or_not true q s m g f = rw m (g refl)
    gain_or_not false q s m g f = rw m f

    pub look_unused : (b : Bool) (q : List Step) (at secs c : ℕ) → is_unused (placed_slate answers settings c q).phase ≡ b → is_unused (placed_slate answers settings c (q ++ Look at secs c ∷ [])).phase ≡ b
    look_unused true q at secs c u = unused_look answers settings q at secs c u
    look_unused false q at secs c u = used_stays answers settings c q (Look at secs c) u

    -- a look of a client after which it is as before, if it is a member
    look_nothing : (q r : List Step) (at secs c : ℕ)
        → (joined answers settings c q ≡ true → (placed_slate answers settings c (q ++ Look at secs c ∷ []) ≡ placed_slate answers settings c q) × (placed_gain answers settings c q (Look at secs c) ≡ []) × (learns c (knows settings c q) (Look at secs c) ≡ knows settings c q))
        → outs answers settings (q ++ Look at secs c ∷ r) ≡ outs answers settings (q ++ r)
    look_nothing q r at secs c idle =
        let s = Look at secs c in
        let same = membership_kept q s refl refl in
        let now : (d : ℕ) → joined answers settings d (q ++ s ∷ []) ≡ joined answers settings d q = λ d. ap (λ (x : Membership). list_any (nat_eq d) x.members) same in
        skipped answers settings q r s (gain_or_not (joined answers settings c (q ++ s ∷ [])) q s refl (λ b. (idle (sym (now c) ∙ b)).1) refl) (record {
          same_membership = same;
          same_unused = λ d. ⊎_elim
              (λ (i : d ≡ c). rw i (look_unused (is_unused (placed_slate answers settings c q).phase) q at secs c refl))
              (λ (apart : d ≢ c). ap (λ (x : Slate). is_unused x.phase) (quiet_slate answers settings d q s (look_quiet d c at secs (knows settings d q) apart)))
              (cases_eq d c);
          same_slates = λ d there. ⊎_elim
              (λ (i : d ≡ c). let m : joined answers settings c q ≡ true = rw i at (sym (now d) ∙ there) in rw i ((idle m).0))
              (λ (apart : d ≢ c). quiet_slate answers settings d q s (look_quiet d c at secs (knows settings d q) apart))
              (cases_eq d c);
          same_knows = λ d there. ⊎_elim
              (λ (i : d ≡ c). let m : joined answers settings c q ≡ true = rw i at (sym (now d) ∙ there) in rw i (knows_more settings c q s ∙ (idle m).2))
              (λ (apart : d ≢ c). knows_more settings d q s ∙ look_knows d at secs c (knows settings d q) apart)
              (cases_eq d c);
        })

    -- a look of one that is no member
    pub strange_look : (q r : List Step) (at secs c : ℕ) → joined answers settings c q ≡ false → outs answers settings (q ++ Look at secs c ∷ r) ≡ outs answers settings (q ++ r)
    strange_look q r at secs c off = look_nothing q r at secs c (λ m. cc)

    look_again : (c at secs : ℕ) (k : Knowledge) → k.unheard ≡ [] → learns c k (Look at secs c) ≡ k
    look_again c at secs k h =
        let self : (c == c) ≡ true = eq-eqb c c refl in
        let make : Bool → State → List Event → Knowledge = λ x b es. record { began = x; seen = b; unheard = es } in
        rw self (ap (λ x. make x (book_now k) []) (or-false k.began) ∙ ap (λ es. make k.began (Rattle.dns_core.specs.Books.books k.seen es) []) h ∙ sym (ap (λ es. make k.began k.seen es) h))

    -- a look of one that has heard all
    pub idle_look : (q r : List Step) (at secs c : ℕ) → (knows settings c q).unheard ≡ [] → outs answers settings (q ++ Look at secs c ∷ r) ≡ outs answers settings (q ++ r)
    idle_look q r at secs c h =
        let s = Look at secs c in
        let k = knows settings c q in
        let sl = placed_slate answers settings c q in
        let self : (c == c) ≡ true = eq-eqb c c refl in
        let p : puts c k s ≡ [] = rw self (append-nil k.unheard ∙ h) in
        look_nothing q r at secs c (λ m. (slate_more answers settings c q s ∙ ap (slate_after answers sl) p, gain_more answers settings c q s ∙ ap (sent_after answers sl) p, look_again c at secs k h))

    -- ---- an event that all clients hear and that doesn't change the book
    pub untaken_entry : (k : EventKind) (b : State) → is_entry (untaken b) k ≡ is_entry b k
    untaken_entry (Reconfigure d t) b = refl
    untaken_entry Shutdown b = refl
    untaken_entry _ b = refl

    wide_knows : (c : ℕ) (k : Knowledge) (e : Event) → is_wide e.kind ≡ true → is_entry (book_now k) e.kind ≡ false → learns c k (Own e) ≡ k
    wide_knows c k e w n =
        let o = wide_no_beginning e.kind w in
        let b : begins c (Own e) ≡ false = rw o refl in
        let l : looks c k.began (Own e) ≡ false = rw o refl in
        rw (l, n, b) (known k (k.began || false) (k.unheard ++ []) (or-false k.began) (append-nil k.unheard))

    pub nothing_entered : (q r : List Step) (e : Event) → is_wide e.kind ≡ true → is_entry (membership answers settings q).book e.kind ≡ false → outs answers settings (q ++ Own e ∷ r) ≡ outs answers settings (q ++ r)
    nothing_entered q r e w n =
        let s = Own e in
        let c = e.client in
        let b = (membership answers settings q).book in
        let off = wide_no_beginning e.kind w in
        let sl = placed_slate answers settings c q in
        let same = membership_kept q s (own_enters answers settings q e off) (wide_call e.kind b sl (joined answers settings c q) w ∙ no_entry e.kind b n) in
        let none : (d : ℕ) → is_entry (book_now (knows settings d q)) e.kind ≡ false = λ d. ap (λ x. is_entry x e.kind) (sym (tied answers settings d q).book) ∙ untaken_entry e.kind b ∙ n in
        skipped answers settings q r s (gain_or_not (joined answers settings c (q ++ s ∷ [])) q s refl (λ x. quiet_gain answers settings c q s (wide_quiet c (knows settings c q) e w)) (no_refusal e.kind b sl (joined answers settings c q) c off)) (record {
          same_membership = same;
          same_unused = λ d. ap (λ (x : Slate). is_unused x.phase) (quiet_slate answers settings d q s (wide_quiet d (knows settings d q) e w));
          same_slates = λ d there. quiet_slate answers settings d q s (wide_quiet d (knows settings d q) e w);
          same_knows = λ d there. knows_more settings d q s ∙ wide_knows d (knows settings d q) e w (none d);
        })

    -- ---- who doesn't begin
    used_not_first : (q : List Step) (e : Event) → is_unused (placed_slate answers settings e.client q).phase ≡ false → is_first answers settings q e ≡ false
    unfolding is_first
    used_not_first q e u = rw u refl

    not_first_case : (b : Bool) (q : List Step) (e : Event) → is_unused (placed_slate answers settings e.client q).phase ≡ b → still_unused answers settings e.kind (membership answers settings q).book ≡ true → is_first answers settings q e ≡ false
    unfolding is_first
    not_first_case true q e u h = let a = unused_after answers settings q e u ∙ h in rw a (and-false (is_unused (placed_slate answers settings e.client q).phase))
    not_first_case false q e u h = rw u refl

    pub not_first : (q : List Step) (e : Event) → is_beginning e.kind ≡ false → is_first answers settings q e ≡ false
    not_first q e n = not_first_case (is_unused (placed_slate answers settings e.client q).phase) q e refl (rw n refl)

    closed_not_first : (q : List Step) (e : Event) → is_beginning e.kind ≡ true → (membership answers settings q).book.closed ≡ true → is_first answers settings q e ≡ false
    closed_not_first q e k cl = not_first_case (is_unused (placed_slate answers settings e.client q).phase) q e refl (rw k cl)

    -- ---- events that change nothing
    pub late_beginning : (q r : List Step) (e : Event) → is_beginning e.kind ≡ true → (membership answers settings q).book.closed ≡ true → outs answers settings (q ++ Own e ∷ r) ≡ outs answers settings (q ++ r)
    late_beginning q r e k cl = nothing q r e (begin_narrow e.kind k) (closed_not_first q e k cl) (λ m. begin_used answers e.kind e (placed_slate answers settings e.client q) refl k (member_used answers settings e.client q m))

    pub used_beginning : (q r : List Step) (e : Event) → is_beginning e.kind ≡ true → is_unused (placed_slate answers settings e.client q).phase ≡ false → outs answers settings (q ++ Own e ∷ r) ≡ outs answers settings (q ++ r)
    used_beginning q r e k u = nothing q r e (begin_narrow e.kind k) (used_not_first q e u) (λ m. begin_used answers e.kind e (placed_slate answers settings e.client q) refl k u)

    -- by which nobody begins, and that changes nothing of its client
    pub idle_event : (q r : List Step) (e : Event) → is_wide e.kind ≡ false → is_beginning e.kind ≡ false → rule answers e (placed_slate answers settings e.client q) ≡ (placed_slate answers settings e.client q, []) → outs answers settings (q ++ Own e ∷ r) ≡ outs answers settings (q ++ r)
    idle_event q r e w k idle = nothing q r e w (not_first q e k) (λ m. idle)

    pub closed_event : (q r : List Step) (e : Event) → is_wide e.kind ≡ false → e.kind ≢ Release → (placed_slate answers settings e.client q).phase ≡ Closed → outs answers settings (q ++ Own e ∷ r) ≡ outs answers settings (q ++ r)
    closed_event q r e w n p = nothing q r e w (used_not_first q e (ap is_unused p)) (λ m. closed_idle answers e (placed_slate answers settings e.client q) w n p)

    pub placed_settled : (c : ℕ) (q : List Step) → Settled (placed_slate answers settings c q)
    unfolding placed_slate
    placed_settled c q = settled_after answers (placed settings c q) (fresh (opening settings)) (nothing_received (fresh (opening settings)) refl)

pub closed_entry : (k : EventKind) (b : State) → b.closed ≡ true → is_entry b k ≡ false
closed_entry (Reconfigure d t) b h = rw h refl
closed_entry Shutdown b h = rw h refl
closed_entry _ b h = refl
