-- The members stand by rising number, and the book counts those of them that hold a slot.
use Rattle.dns_session.specs.Serving.{Serving}
use Rattle.std.proofs.Common.{◌≡◌, ◌≢◌, ℕ, ◌+◌, ◌-◌, List, [], ◌∷◌, ◌++◌, length, Bool, true, false, refl, ap, sym, ◌∙◌, subst, ⊎_elim, append_assoc}
use Rattle.std.specs.Prelude.{nat_eq, filter, if◌then◌else◌, not, ◌&&◌}
use Rattle.std.specs.List.{list_any}
use Rattle.std.specs.List.Sorted.{IsStrictlySortedBy}
use Rattle.std.specs.Ordering.{nat_cmp}
use Rattle.std.proofs.lemmas.Bool.{cases_eq, eq-eqb}
use Rattle.std.proofs.lemmas.List.{append-nil}
use Rattle.std.proofs.Math.Bool.{and-false}
use Rattle.dns_name.specs.declared.address.SocketAddr.{SocketAddr}
use Rattle.dns_events.specs.declared.look.Look.{Look as State}
use Rattle.dns_admission.specs.declared.call.Call.TheVariants as call
use Rattle.dns_admission.specs.Machine.{has_slot, has_version, replaced, reply_of, state_after}
use Rattle.dns_events.specs.declared.event.Event.{Event}
use Rattle.dns_events.specs.declared.event.EventKind.{EventKind}
use Rattle.dns_events.specs.declared.event.EventKind.TheVariants.{Datagram, Offer, Release, Reconfigure, Shutdown}
use Rattle.dns_events.specs.declared.event.Step.{Step}
use Rattle.dns_events.specs.declared.event.Step.TheVariants.{Own, Look}
use Rattle.dns_session.specs.After.{slate_after}
use Rattle.dns_session.specs.Rule.{rule}
use Rattle.dns_session.specs.Slate.{Slate, Phase, Unused, Closed, conf_of, fresh, phase_is_closed}
use Rattle.dns_core.specs.Own.{is_wide}
use Rattle.dns_core.specs.Out.{holds_slot, is_unused, put}
use Rattle.dns_core.specs.Books.{book_rule}
use Rattle.dns_core.specs.Placed.{begins, is_beginning, knows, looks, puts}
use Rattle.dns_core.specs.Outs.{Membership, placed_slate, membership, call_for, call_at, enters, enters_at, stepping}
use Rattle.dns_core.specs.StepsByClient.{slots_held}
use Rattle.dns_events.specs.declared.settings.Settings.{Settings}
use Rattle.dns_core.proofs.Counted.{absent_other, filter_put, filter_put_not, filter_same, one_less}
use Rattle.dns_core.proofs.Plain.{slot_kept, slot_stays}
use Rattle.dns_core.proofs.Rising.{sorted_none, sorted_put}
use Rattle.dns_core.proofs.Wide.{wide_slot}
use Rattle.dns_core.proofs.Looked.{Enter, entry_wide}
use Rattle.dns_core.proofs.Placing.{membership_more, slate_more}
use Rattle.dns_core.proofs.Tied.{tied}
use Rattle.dns_core.proofs.Stepping.{book_more, members_same, other_quiet, look_quiet, own_slate, quiet_slate, wide_call, wide_quiet, other_step}
use Rattle.dns_core.proofs.StepsByClient.{joined, owns}
use Rattle.dns_core.proofs.StepsAlike.{entered, enters_by, member_used}

abbrev pub is_release : EventKind → Bool
is_release Release = true
is_release _ = false

-- a release that finds a closed connection, which was not released before
abbrev pub gives_back : EventKind → Slate → Bool
gives_back k s = is_release k && (phase_is_closed s.phase && not s.freed)

-- what becomes of a slot by an event of its client
pub record Slot (e : Event) (s t : Slate) : Type 0 where
  pub gone : gives_back e.kind s ≡ true → (holds_slot s ≡ true) × (holds_slot t ≡ false)
  pub kept : gives_back e.kind s ≡ false → holds_slot t ≡ holds_slot s

module _ (answers : Serving) where
  going : (e : Event) (s : Slate) → phase_is_closed s.phase ≡ false → holds_slot (rule answers e s).0 ≡ holds_slot s → Slot e s (rule answers e s).0
  going e s p h = record { gone = λ g. let n = and-false (is_release e.kind) in let z : false ≡ true = rw (p, n) at g in cc; kept = λ _. h }

  closed_slot : (k : EventKind) (f : Bool) (e : Event) (s : Slate) → e.kind ≡ k → s.freed ≡ f → s.phase ≡ Closed → Slot e s (rule answers e s).0
  closed_slot Release true e s is f p = record { gone = λ g. let z : false ≡ true = rw (is, p, f) at g in cc; kept = λ _. rw (is, p, f) refl }
  closed_slot Release false e s is f p = record { gone = λ g. (rw (p, f) refl, rw (is, p) refl); kept = λ g. let z : true ≡ false = rw (is, p, f) at g in cc }
  closed_slot k f e s is g p = record { gone = λ x. let z : false ≡ true = rw is at x in cc; kept = λ _. slot_stays answers e s p (λ r. let z : k ≡ Release = sym is ∙ r in cc) }

  slot_phase : (p : Phase) (e : Event) (s : Slate) → s.phase ≡ p → is_unused p ≡ false → Slot e s (rule answers e s).0
  slot_phase Unused e s is u = cc
  slot_phase Closed e s is u = closed_slot e.kind s.freed e s refl refl is
  slot_phase _ e s is u = going e s (ap phase_is_closed is) (slot_kept answers e s (ap Rattle.dns_core.proofs.Plain.is_going is))

  pub slot_after : (e : Event) (s : Slate) → is_unused s.phase ≡ false → Slot e s (rule answers e s).0
  slot_after e s u = slot_phase s.phase e s refl u

  held_list : (b : State) (es : List Event) (s : Slate) → Enter b es → holds_slot (slate_after answers s es) ≡ holds_slot s
  held_list b [] s h = refl
  held_list b (e ∷ es) s h = held_list (book_rule b e.kind) es (rule answers e s).0 h.1 ∙ wide_slot answers e s (entry_wide e.kind b h.0)

-- ---- what the book does
taken_wide : (k : EventKind) (b : State) → (book_rule b k).taken ≡ b.taken
taken_wide (Reconfigure d t) b = two b.closed (has_version b)
  where
    two : (z v : Bool) → (if z then b else (if v then replaced b d t else b)).taken ≡ b.taken
    two true v = refl
    two false true = refl
    two false false = refl
taken_wide Shutdown b = refl
taken_wide _ b = refl

-- of a member's event: a release may give a slot back
taken_member : (k : EventKind) (sl : Slate) (b : State) → is_wide k ≡ false → is_unused sl.phase ≡ false → (state_after b (call_for sl true k)).taken ≡ (if gives_back k sl then b.taken - 1 else b.taken)
taken_member (Offer addr) sl b w u = rw u refl
taken_member (Reconfigure d t) sl b w u = cc
taken_member Shutdown sl b w u = cc
taken_member Release sl b w u = (elim (phase_is_closed sl.phase && not sl.freed) as (λ z. (state_after b (if z then call.Release else call.Look)).taken ≡ (if z then b.taken - 1 else b.taken)) [ true ↦ refl | false ↦ refl ])
taken_member _ sl b w u = refl

-- of an event of one that is no member, and doesn't enter, nothing
not_admitted : (u z r : Bool) (sl : Slate) (b : State) (addr : SocketAddr) → is_unused sl.phase ≡ u → b.closed ≡ z → has_slot b ≡ r → enters sl b (reply_of b (call_for sl false (Offer addr))) (Offer addr) ≡ false → (state_after b (call_for sl false (Offer addr))).taken ≡ b.taken
not_admitted false z r sl b addr u cl f n = rw u refl
not_admitted true true r sl b addr u cl f n = rw (u, cl) refl
not_admitted true false true sl b addr u cl f n = let z : true ≡ false = rw (u, cl, f) at n in cc
not_admitted true false false sl b addr u cl f n = rw (u, cl, f) refl

taken_other : (k : EventKind) (sl : Slate) (b : State) → is_wide k ≡ false → enters sl b (reply_of b (call_for sl false k)) k ≡ false → (state_after b (call_for sl false k)).taken ≡ b.taken
taken_other (Offer addr) sl b w n = not_admitted (is_unused sl.phase) b.closed (has_slot b) sl b addr refl refl refl n
taken_other (Reconfigure d t) sl b w n = cc
taken_other Shutdown sl b w n = cc
taken_other Release sl b w n = refl
taken_other _ sl b w n = refl

-- who enters takes a slot by an offer, and none by a datagram
record Seat (e : Event) (sl : Slate) (m : Bool) (b : State) (answers : Serving) : Type 0 where
  holds : Bool
  held : holds_slot (rule answers e (fresh (conf_of b))).0 ≡ holds
  taken : (state_after b (call_for sl m e.kind)).taken ≡ (if holds then b.taken + 1 else b.taken)

offered_seat : (r : Bool) (e : Event) (addr : SocketAddr) (sl : Slate) (m : Bool) (b : State) (answers : Serving) → e.kind ≡ Offer addr → is_unused sl.phase ≡ true → b.closed ≡ false → has_slot b ≡ r → enters sl b (reply_of b (call_for sl m (Offer addr))) (Offer addr) ≡ true → Seat e sl m b answers
offered_seat true e addr sl m b answers is u cl f n = record { holds = true; held = rw (is, cl) refl; taken = rw (is, u, cl, f) refl }
offered_seat false e addr sl m b answers is u cl f n = let z : false ≡ true = rw (u, cl, f) at n in cc

seat : (k : EventKind) (e : Event) (sl : Slate) (m : Bool) (b : State) (answers : Serving) → e.kind ≡ k → is_beginning k ≡ true → is_unused sl.phase ≡ true → b.closed ≡ false → enters sl b (reply_of b (call_for sl m k)) k ≡ true → Seat e sl m b answers
seat (Offer addr) e sl m b answers is k u cl n = offered_seat (has_slot b) e addr sl m b answers is u cl refl n
seat (Datagram addr o) e sl m b answers is k u cl n = record { holds = false; held = rw (is, cl) refl; taken = rw is refl }
seat _ e sl m b answers is k u cl n = cc

module _ (answers : Serving) (settings : Settings) where
  -- ---- the members
  members_joined : (q : List Step) (s : Step) → enters_at answers settings q (membership answers settings q) s ≡ true → (membership answers settings (q ++ s ∷ [])).members ≡ put (stepping s) (membership answers settings q).members
  members_joined q s n = ap (λ (x : Membership). x.members) (membership_more answers settings q s) ∙ rw n refl

  enters_absent : (q : List Step) (s : Step) → enters_at answers settings q (membership answers settings q) s ≡ true → joined answers settings (stepping s) q ≡ false
  enters_absent q (Own e) n = ((owns answers settings e.client q).unused (enters_by answers settings q e n).unused).1
  enters_absent q (Look at secs d) n = cc

  abbrev Rises : List Step → Type 0
  Rises q = IsStrictlySortedBy nat_cmp (membership answers settings q).members

  rises_case : (b : Bool) (q : List Step) (s : Step) → Rises q → enters_at answers settings q (membership answers settings q) s ≡ b → Rises (q ++ s ∷ [])
  rises_case true q s h n = subst (IsStrictlySortedBy nat_cmp) (sym (members_joined q s n)) (sorted_put (stepping s) (membership answers settings q).members h (enters_absent q s n))
  rises_case false q s h n = subst (IsStrictlySortedBy nat_cmp) (sym (members_same answers settings q s n)) h

  -- ---- the slots
  abbrev count : List Step → List ℕ → ℕ
  count p ms = length (filter (λ c. holds_slot (placed_slate answers settings c p)) ms)

  abbrev Counts : List Step → Type 0
  Counts q = (membership answers settings q).book.taken ≡ count q (membership answers settings q).members

  same_count : (q p : List Step) (ms : List ℕ) → ((c : ℕ) → list_any (nat_eq c) ms ≡ true → placed_slate answers settings c p ≡ placed_slate answers settings c q) → count p ms ≡ count q ms
  same_count q p ms h = ap length (filter_same (λ c. holds_slot (placed_slate answers settings c p)) (λ c. holds_slot (placed_slate answers settings c q)) ms (λ c there. ap holds_slot (h c there)))

  others_same : (q : List Step) (s : Step) (ms : List ℕ) → list_any (nat_eq (stepping s)) ms ≡ false → count (q ++ s ∷ []) ms ≡ count q ms
  others_same q s ms absent = same_count q (q ++ s ∷ []) ms (λ c there. quiet_slate answers settings c q s (other_step c (knows settings c q) s (absent_other (stepping s) c ms absent there)))

  put_count : (h : Bool) (q : List Step) (s : Step) (ms : List ℕ) → list_any (nat_eq (stepping s)) ms ≡ false → holds_slot (placed_slate answers settings (stepping s) (q ++ s ∷ [])) ≡ h → count (q ++ s ∷ []) (put (stepping s) ms) ≡ (if h then count q ms + 1 else count q ms)
  put_count true q s ms absent held = filter_put (λ c. holds_slot (placed_slate answers settings c (q ++ s ∷ []))) (stepping s) ms held ∙ ap (λ n. n + 1) (others_same q s ms absent)
  put_count false q s ms absent held = filter_put_not (λ c. holds_slot (placed_slate answers settings c (q ++ s ∷ []))) (stepping s) ms held ∙ others_same q s ms absent

  enters_counts : (q : List Step) (s : Step) → Counts q → enters_at answers settings q (membership answers settings q) s ≡ true → Counts (q ++ s ∷ [])
  enters_counts q (Look at secs d) h n = cc
  enters_counts q (Own e) h n =
      let s = Own e in
      let hl = membership answers settings q in
      let en = enters_by answers settings q e n in
      let a = entered answers settings q e en in
      let st = seat e.kind e (placed_slate answers settings e.client q) (joined answers settings e.client q) hl.book answers refl en.beginning en.unused en.open_book n in
      ap (λ (b : State). b.taken) (book_more answers settings q s) ∙ st.taken ∙ ap (λ x. if st.holds then x + 1 else x) h
      ∙ sym (ap (count (q ++ s ∷ [])) (members_joined q s n) ∙ put_count st.holds q s hl.members (enters_absent q s n) (ap holds_slot a.slate ∙ st.held))

  look_count : (q : List Step) (at secs d : ℕ) (ms : List ℕ) → count (q ++ Look at secs d ∷ []) ms ≡ count q ms
  look_count q at secs d ms = ap length (filter_same (λ c. holds_slot (placed_slate answers settings c (q ++ Look at secs d ∷ []))) (λ c. holds_slot (placed_slate answers settings c q)) ms (λ c there. ⊎_elim
      (λ (i : c ≡ d). rw i (by refl))
      (λ (apart : c ≢ d). ap holds_slot (quiet_slate answers settings c q (Look at secs d) (look_quiet c d at secs (knows settings c q) apart)))
      (cases_eq c d)))
    where
      by : d ≡ d → holds_slot (placed_slate answers settings d (q ++ Look at secs d ∷ [])) ≡ holds_slot (placed_slate answers settings d q)
      by z =
          let k = knows settings d q in
          let self = eq-eqb d d z in
          let p : puts d k (Look at secs d) ≡ k.unheard = rw self (append-nil k.unheard) in
          ap holds_slot (slate_more answers settings d q (Look at secs d) ∙ ap (slate_after answers (placed_slate answers settings d q)) p)
          ∙ held_list answers k.seen k.unheard (placed_slate answers settings d q) (tied answers settings d q).slate.enter

  member_count : (q : List Step) (e : Event) → is_wide e.kind ≡ false → Rises q → joined answers settings e.client q ≡ true
      → count (q ++ Own e ∷ []) (membership answers settings q).members ≡ (if gives_back e.kind (placed_slate answers settings e.client q) then count q (membership answers settings q).members - 1 else count q (membership answers settings q).members)
  member_count q e w so m =
      let c = e.client in
      let sl = placed_slate answers settings c q in
      let u = member_used answers settings c q m in
      let b = (tied answers settings c q).slate.begun u in
      let l : looks c (knows settings c q).began (Own e) ≡ false = rw b (and-false (begins c (Own e))) in
      let t : Slot e sl (placed_slate answers settings c (q ++ Own e ∷ [])) = rw (own_slate answers settings q e w l) (slot_after answers e sl u) in
      one_less (λ d. holds_slot (placed_slate answers settings d q)) (λ d. holds_slot (placed_slate answers settings d (q ++ Own e ∷ []))) c (membership answers settings q).members (gives_back e.kind sl) so m
      (λ y apart. ap holds_slot (quiet_slate answers settings y q (Own e) (other_quiet y (knows settings y q) e apart))) t.gone t.kept

  narrow_counts : (m : Bool) (q : List Step) (e : Event) → is_wide e.kind ≡ false → Rises q → Counts q → enters_at answers settings q (membership answers settings q) (Own e) ≡ false → joined answers settings e.client q ≡ m
      → (state_after (membership answers settings q).book (call_for (placed_slate answers settings e.client q) m e.kind)).taken ≡ count (q ++ Own e ∷ []) (membership answers settings q).members
  narrow_counts true q e w so h n m =
      let sl = placed_slate answers settings e.client q in
      taken_member e.kind sl (membership answers settings q).book w (member_used answers settings e.client q m) ∙ ap (λ x. if gives_back e.kind sl then x - 1 else x) h ∙ sym (member_count q e w so m)
  narrow_counts false q e w so h n m =
      let sl = placed_slate answers settings e.client q in
      let b = (membership answers settings q).book in
      let n' : enters sl b (reply_of b (call_for sl false e.kind)) e.kind ≡ false = rw m at n in
      taken_other e.kind sl b w n' ∙ h ∙ sym (others_same q (Own e) (membership answers settings q).members m)

  own_counts : (w : Bool) (q : List Step) (e : Event) → Rises q → Counts q → enters_at answers settings q (membership answers settings q) (Own e) ≡ false → is_wide e.kind ≡ w
      → (state_after (membership answers settings q).book (call_at answers settings q (membership answers settings q).members (Own e))).taken ≡ count (q ++ Own e ∷ []) (membership answers settings q).members
  own_counts true q e so h n w =
      let b = (membership answers settings q).book in
      ap (λ (x : State). x.taken) (wide_call e.kind b (placed_slate answers settings e.client q) (joined answers settings e.client q) w) ∙ taken_wide e.kind b ∙ h
      ∙ sym (same_count q (q ++ Own e ∷ []) (membership answers settings q).members (λ c there. quiet_slate answers settings c q (Own e) (wide_quiet c (knows settings c q) e w)))
  own_counts false q e so h n w = narrow_counts (joined answers settings e.client q) q e w so h n refl

  still_counts : (q : List Step) (s : Step) → Rises q → Counts q → enters_at answers settings q (membership answers settings q) s ≡ false
      → (state_after (membership answers settings q).book (call_at answers settings q (membership answers settings q).members s)).taken ≡ count (q ++ s ∷ []) (membership answers settings q).members
  still_counts q (Own e) so h n = own_counts (is_wide e.kind) q e so h n refl
  still_counts q (Look at secs d) so h n = h ∙ sym (look_count q at secs d (membership answers settings q).members)

  counts_case : (b : Bool) (q : List Step) (s : Step) → Rises q → Counts q → enters_at answers settings q (membership answers settings q) s ≡ b → Counts (q ++ s ∷ [])
  counts_case true q s so h n = enters_counts q s h n
  counts_case false q s so h n = ap (λ (b : State). b.taken) (book_more answers settings q s) ∙ still_counts q s so h n ∙ sym (ap (count (q ++ s ∷ [])) (members_same answers settings q s n))

  abbrev Both : List Step → Type 0
  Both q = Rises q × Counts q

  both_on : (r q : List Step) → Both q → Both (q ++ r)
  both_on [] q h = subst Both (sym (append-nil q)) h
  both_on (s ∷ r) q h =
      let n = enters_at answers settings q (membership answers settings q) s in
      subst Both (append_assoc q (s ∷ []) r) (both_on r (q ++ s ∷ []) (rises_case n q s h.0 refl, counts_case n q s h.0 h.1 refl))

  both_none : Both []
  unfolding membership
  both_none = (sorted_none, refl)

  pub members_rise : (q : List Step) → IsStrictlySortedBy nat_cmp (membership answers settings q).members
  members_rise q = (both_on q [] both_none).0

  pub book_counts : (q : List Step) → (membership answers settings q).book.taken ≡ slots_held answers settings q
  unfolding slots_held
  book_counts q = (both_on q [] both_none).1
