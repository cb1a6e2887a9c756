-- Two lists of steps after which all goes on alike.
use Rattle.dns_session.specs.Serving.{Serving}
use Rattle.std.proofs.Common.{◌≡◌, ◌≢◌, ℕ, List, [], ◌∷◌, ◌++◌, Bool, true, false, refl, ap, sym, ◌∙◌, subst, ⊎_elim, append_assoc}
use Rattle.std.specs.Prelude.{nat_eq, if◌then◌else◌, ◌==◌}
use Rattle.std.specs.List.{list_any}
use Rattle.std.proofs.lemmas.Bool.{cases_eq, eq-eqb}
use Rattle.std.proofs.lemmas.List.{append-nil}
use Rattle.dns_events.specs.declared.look.Look.{Look as State}
use Rattle.dns_admission.specs.declared.call.Reply.{Reply}
use Rattle.dns_admission.specs.Machine.{reply_of, state_after}
use Rattle.dns_events.specs.declared.event.Event.{Event}
use Rattle.dns_events.specs.declared.event.EventKind.{EventKind}
use Rattle.dns_events.specs.declared.event.EventKind.TheVariants.{Datagram, Offer, Release, Reconfigure, Shutdown}
use Rattle.dns_events.specs.declared.event.Output.{Output}
use Rattle.dns_events.specs.declared.event.Step.{Step}
use Rattle.dns_events.specs.declared.event.Step.TheVariants.{Own, Look}
use Rattle.dns_session.specs.After.{slate_after, sent_after}
use Rattle.dns_session.specs.Rule.{rule}
use Rattle.dns_session.specs.Slate.{Slate, conf_of, fresh}
use Rattle.dns_core.specs.Own.{is_wide}
use Rattle.dns_core.specs.Out.{is_unused, put}
use Rattle.dns_core.specs.Placed.{Knowledge, book_now, begins, is_beginning, looks, puts, learns, knows}
use Rattle.dns_core.specs.Outs.{Membership, placed_slate, placed_gain, membership, step_gained, outs, outs_after, call_for, call_at, enters, enters_at, refused_offer, stepping}
use Rattle.dns_events.specs.declared.settings.Settings.{Settings}
use Rattle.dns_core.proofs.Placing.{knows_more, slate_more, gain_more, membership_more}
use Rattle.dns_core.proofs.Tied.{tied, unused_kept, unused_list, untaken}
use Rattle.dns_core.proofs.Stepping.{quiet_slate, own_slate, wide_quiet, other_step}
use Rattle.dns_core.proofs.StepBegins.{met, met_closed, met_open, meets}
use Rattle.dns_core.proofs.StepsByClient.{Settled, joined, joined_by, joined_other, opens, owns, settle, used_stays}

-- ---- what the book is asked depends on the slate of a member, and else on whether the number was used
outside_call : (k : EventKind) (s t : Slate) → is_unused s.phase ≡ is_unused t.phase → call_for s false k ≡ call_for t false k
outside_call (Offer addr) s t u = rw u refl
outside_call Release s t u = refl
outside_call (Reconfigure d x) s t u = refl
outside_call Shutdown s t u = refl
outside_call _ s t u = refl

outside_enters : (k : EventKind) (s t : Slate) (b : State) (r : Reply) → is_unused s.phase ≡ is_unused t.phase → enters s b r k ≡ enters t b r k
outside_enters (Offer addr) s t b r u = refl
outside_enters (Datagram addr o) s t b r u = rw u refl
outside_enters _ s t b r u = refl

-- what one knows that has just begun
abbrev just_begun : State → Knowledge
just_begun b = record { began = true; seen = b; unheard = [] }

module _ (answers : Serving) (settings : Settings) where
  pub record Alike (q p : List Step) : Type 0 where
    pub same_membership : membership answers settings q ≡ membership answers settings p
    pub same_unused : (c : ℕ) → is_unused (placed_slate answers settings c q).phase ≡ is_unused (placed_slate answers settings c p).phase
    pub same_slates : (c : ℕ) → joined answers settings c q ≡ true → placed_slate answers settings c q ≡ placed_slate answers settings c p
    pub same_knows : (c : ℕ) → joined answers settings c q ≡ true → knows settings c q ≡ knows settings c p

  same_joined : (c : ℕ) (q p : List Step) → Alike q p → joined answers settings c q ≡ joined answers settings c p
  same_joined c q p h = ap (λ (x : Membership). list_any (nat_eq c) x.members) h.same_membership

  -- a member's number is used
  used_case : (b : Bool) (c : ℕ) (q : List Step) → is_unused (placed_slate answers settings c q).phase ≡ b → joined answers settings c q ≡ true → b ≡ false
  used_case false c q u m = refl
  used_case true c q u m = let n = ((owns answers settings c q).unused u).1 in cc

  pub member_used : (c : ℕ) (q : List Step) → joined answers settings c q ≡ true → is_unused (placed_slate answers settings c q).phase ≡ false
  member_used c q m = used_case (is_unused (placed_slate answers settings c q).phase) c q refl m

  -- ---- the book and the members
  kind_case : (b : Bool) (q p : List Step) (e : Event) → Alike q p → joined answers settings e.client q ≡ b
      → call_for (placed_slate answers settings e.client q) b e.kind ≡ call_for (placed_slate answers settings e.client p) b e.kind
  kind_case true q p e h m = ap (λ (s : Slate). call_for s true e.kind) (h.same_slates e.client m)
  kind_case false q p e h m = outside_call e.kind (placed_slate answers settings e.client q) (placed_slate answers settings e.client p) (h.same_unused e.client)

  pub call_alike : (q p : List Step) (s : Step) → Alike q p → call_at answers settings q (membership answers settings q).members s ≡ call_at answers settings p (membership answers settings p).members s
  call_alike q p (Own e) h = kind_case (joined answers settings e.client q) q p e h refl ∙ ap (λ b. call_for (placed_slate answers settings e.client p) b e.kind) (same_joined e.client q p h)
  call_alike q p (Look at secs d) h = refl

  reply_alike : (q p : List Step) (s : Step) → Alike q p → reply_of (membership answers settings q).book (call_at answers settings q (membership answers settings q).members s) ≡ reply_of (membership answers settings p).book (call_at answers settings p (membership answers settings p).members s)
  reply_alike q p s h =
      ap (reply_of (membership answers settings q).book) (call_alike q p s h)
      ∙ ap (λ (x : Membership). reply_of x.book (call_at answers settings p (membership answers settings p).members s)) h.same_membership

  pub enters_alike : (q p : List Step) (s : Step) → Alike q p → enters_at answers settings q (membership answers settings q) s ≡ enters_at answers settings p (membership answers settings p) s
  enters_alike q p (Own e) h =
      outside_enters e.kind (placed_slate answers settings e.client q) (placed_slate answers settings e.client p) (membership answers settings q).book (reply_of (membership answers settings q).book (call_at answers settings q (membership answers settings q).members (Own e))) (h.same_unused e.client)
      ∙ ap (λ r. enters (placed_slate answers settings e.client p) (membership answers settings q).book r e.kind) (reply_alike q p (Own e) h)
      ∙ ap (λ (x : Membership). enters (placed_slate answers settings e.client p) x.book (reply_of (membership answers settings p).book (call_at answers settings p (membership answers settings p).members (Own e))) e.kind) h.same_membership
  enters_alike q p (Look at secs d) h = refl

  pub membership_alike : (q p : List Step) (s : Step) → Alike q p → membership answers settings (q ++ s ∷ []) ≡ membership answers settings (p ++ s ∷ [])
  membership_alike q p s h =
      let after : State → Bool → List ℕ → Membership = λ b n ms. record { book = b; members = if n then put (stepping s) ms else ms } in
      let k = call_at answers settings p (membership answers settings p).members s in
      let n = enters_at answers settings p (membership answers settings p) s in
      membership_more answers settings q s
      ∙ ap (λ x. after (state_after (membership answers settings q).book x) (enters_at answers settings q (membership answers settings q) s) (membership answers settings q).members) (call_alike q p s h)
      ∙ ap (λ x. after (state_after (membership answers settings q).book k) x (membership answers settings q).members) (enters_alike q p s h)
      ∙ ap (λ (x : Membership). after (state_after x.book k) n x.members) h.same_membership
      ∙ sym (membership_more answers settings p s)

  -- ---- who begins
  pub record Enters (q : List Step) (e : Event) : Type 0 where
    pub unused : is_unused (placed_slate answers settings e.client q).phase ≡ true
    pub open_book : (membership answers settings q).book.closed ≡ false
    pub beginning : is_beginning e.kind ≡ true

  pub enters_by : (q : List Step) (e : Event) → enters_at answers settings q (membership answers settings q) (Own e) ≡ true → Enters q e
  unfolding Settled
  enters_by q e n = ⊎_elim
      (λ (x : (is_unused (placed_slate answers settings e.client q).phase ≡ true) × ((membership answers settings q).book.closed ≡ false) × (is_beginning e.kind ≡ true)). record { unused = x.0; open_book = x.1; beginning = x.2 })
      (λ (y : (refused_offer e.client (reply_of (membership answers settings q).book (call_at answers settings q (membership answers settings q).members (Own e))) ≡ []) × (enters_at answers settings q (membership answers settings q) (Own e) ≡ false)). let z = y.1 in cc)
      (settle e.kind e.client (placed_slate answers settings e.client q) (list_any (nat_eq e.client) (membership answers settings q).members) (membership answers settings q).book)

  -- who enters is met as one of which nothing came, at the book as it is
  pub record Entered (q : List Step) (e : Event) (b : State) : Type 0 where
    pub slate : placed_slate answers settings e.client (q ++ Own e ∷ []) ≡ (rule answers e (fresh (conf_of b))).0
    pub gain : placed_gain answers settings e.client q (Own e) ≡ (rule answers e (fresh (conf_of b))).1
    pub knows : knows settings e.client (q ++ Own e ∷ []) ≡ just_begun (untaken b)

  first_time : (b : Bool) (q : List Step) (c : ℕ) → (knows settings c q).began ≡ b → is_unused (placed_slate answers settings c q).phase ≡ true → (membership answers settings q).book.closed ≡ false → b ≡ false
  first_time = Rattle.dns_core.proofs.StepBegins.none_before answers settings

  pub entered : (q : List Step) (e : Event) → Enters q e → Entered q e (membership answers settings q).book
  entered q e n =
      let c = e.client in
      let kn = knows settings c q in
      let b = (membership answers settings q).book in
      let me = meets answers settings q e n.beginning n.unused in
      let op = met_open answers settings q e n.beginning n.unused n.open_book in
      let is : met answers settings q e ≡ fresh (conf_of b) = op.unused ∙ ap fresh op.shown in
      let self : (c == c) ≡ true = eq-eqb c c refl in
      let no : kn.began ≡ false = first_time kn.began q c refl n.unused n.open_book in
      let l : looks c kn.began (Own e) ≡ true = rw (n.beginning, self, no) refl in
      let bg : begins c (Own e) ≡ true = rw (n.beginning, self) refl in
      let kb : book_now kn ≡ untaken b = sym (tied answers settings c q).book in
      record {
        slate = me.slate ∙ ap (λ s. (rule answers e s).0) is;
        gain = me.gain ∙ ap (λ s. (rule answers e s).1) is;
        knows = knows_more settings c q (Own e) ∙ rw (l, bg, no) (ap just_begun kb);
      }

  -- ---- slates and what is known, of a member
  came_case : (n : Bool) (c : ℕ) (q : List Step) (s : Step) → c ≡ stepping s → enters_at answers settings q (membership answers settings q) s ≡ n → joined answers settings c q ≡ false → joined answers settings c (q ++ s ∷ []) ≡ true → n ≡ true
  came_case true c q s same is was m = refl
  came_case false c q s same is was m = let z = joined_by answers settings false c q s is in cc

  -- one more member is who enters
  came : (c : ℕ) (q : List Step) (s : Step) → joined answers settings c q ≡ false → joined answers settings c (q ++ s ∷ []) ≡ true → (c ≡ stepping s) × (enters_at answers settings q (membership answers settings q) s ≡ true)
  came c q s was m = ⊎_elim
      (λ (same : c ≡ stepping s). (same, came_case (enters_at answers settings q (membership answers settings q) s) c q s same refl was m))
      (λ (apart : c ≢ stepping s). let z = joined_other answers settings c q s apart in let no : true ≡ false = sym m ∙ z ∙ was in cc)
      (cases_eq c (stepping s))

  -- what becomes of one that enters
  pub record SameMember (c : ℕ) (q p : List Step) : Type 0 where
    pub slate : placed_slate answers settings c q ≡ placed_slate answers settings c p
    pub knows : knows settings c q ≡ knows settings c p

  enters_same : (q p : List Step) (e : Event) → Alike q p → enters_at answers settings q (membership answers settings q) (Own e) ≡ true → SameMember e.client (q ++ Own e ∷ []) (p ++ Own e ∷ [])
  enters_same q p e h n =
      let a = entered q e (enters_by q e n) in
      let b = entered p e (enters_by p e (sym (enters_alike q p (Own e) h) ∙ n)) in
      record {
        slate = a.slate ∙ ap (λ (x : Membership). (rule answers e (fresh (conf_of x.book))).0) h.same_membership ∙ sym b.slate;
        knows = a.knows ∙ ap (λ (x : Membership). just_begun (untaken x.book)) h.same_membership ∙ sym b.knows;
      }

  came_same : (c : ℕ) (q p : List Step) (s : Step) → Alike q p → c ≡ stepping s → enters_at answers settings q (membership answers settings q) s ≡ true → SameMember c (q ++ s ∷ []) (p ++ s ∷ [])
  came_same c q p (Look at secs d) h same n = cc
  came_same c q p (Own e) h same n = subst (λ (d : ℕ). SameMember d (q ++ Own e ∷ []) (p ++ Own e ∷ [])) (sym same) (enters_same q p e h n)

  member_case : (b : Bool) (c : ℕ) (q p : List Step) (s : Step) → Alike q p → joined answers settings c q ≡ b → joined answers settings c (q ++ s ∷ []) ≡ true → SameMember c (q ++ s ∷ []) (p ++ s ∷ [])
  member_case true c q p s h was m = record {
    slate =
        slate_more answers settings c q s
        ∙ ap (λ x. slate_after answers x (puts c (knows settings c q) s)) (h.same_slates c was)
        ∙ ap (λ k. slate_after answers (placed_slate answers settings c p) (puts c k s)) (h.same_knows c was)
        ∙ sym (slate_more answers settings c p s);
    knows = knows_more settings c q s ∙ ap (λ k. learns c k s) (h.same_knows c was) ∙ sym (knows_more settings c p s);
  }
  member_case false c q p s h was m = let n = came c q s was m in came_same c q p s h n.0 n.1

  member_alike : (c : ℕ) (q p : List Step) (s : Step) → Alike q p → joined answers settings c (q ++ s ∷ []) ≡ true → SameMember c (q ++ s ∷ []) (p ++ s ∷ [])
  member_alike c q p s h m = member_case (joined answers settings c q) c q p s h refl m

  -- ---- which numbers are used

  beginning_case : (z : Bool) (q : List Step) (e : Event) → is_beginning e.kind ≡ true → is_unused (placed_slate answers settings e.client q).phase ≡ true → (membership answers settings q).book.closed ≡ z → is_unused (placed_slate answers settings e.client (q ++ Own e ∷ [])).phase ≡ z
  beginning_case true q e k u cl = (met_closed answers settings q e k u cl).0
  beginning_case false q e k u cl = opens answers settings q e k u cl

  narrow_case : (w : Bool) (q : List Step) (e : Event) → is_beginning e.kind ≡ false → is_unused (placed_slate answers settings e.client q).phase ≡ true → is_wide e.kind ≡ w → is_unused (placed_slate answers settings e.client (q ++ Own e ∷ [])).phase ≡ true
  narrow_case true q e k u w = ap (λ (s : Slate). is_unused s.phase) (quiet_slate answers settings e.client q (Own e) (wide_quiet e.client (knows settings e.client q) e w)) ∙ u
  narrow_case false q e k u w =
      let l : looks e.client (knows settings e.client q).began (Own e) ≡ false = rw k refl in
      ap (λ (s : Slate). is_unused s.phase) (own_slate answers settings q e w l) ∙ unused_kept answers e (placed_slate answers settings e.client q) k ∙ u

  -- an unused number stays so, unless its client begins at an open book
  abbrev pub still_unused : EventKind → State → Bool
  still_unused k b = if is_beginning k then b.closed else true

  unused_case : (z : Bool) (q : List Step) (e : Event) → is_beginning e.kind ≡ z → is_unused (placed_slate answers settings e.client q).phase ≡ true → is_unused (placed_slate answers settings e.client (q ++ Own e ∷ [])).phase ≡ (if z then (membership answers settings q).book.closed else true)
  unused_case true q e k u = beginning_case (membership answers settings q).book.closed q e k u refl
  unused_case false q e k u = narrow_case (is_wide e.kind) q e k u refl

  pub unused_after : (q : List Step) (e : Event) → is_unused (placed_slate answers settings e.client q).phase ≡ true → is_unused (placed_slate answers settings e.client (q ++ Own e ∷ [])).phase ≡ still_unused e.kind (membership answers settings q).book
  unused_after q e u = unused_case (is_beginning e.kind) q e refl u

  pub unused_look : (q : List Step) (at secs c : ℕ) → is_unused (placed_slate answers settings c q).phase ≡ true → is_unused (placed_slate answers settings c (q ++ Look at secs c ∷ [])).phase ≡ true
  unused_look q at secs c u =
      let k = knows settings c q in
      let self : (c == c) ≡ true = eq-eqb c c refl in
      let p : puts c k (Look at secs c) ≡ k.unheard = rw self (append-nil k.unheard) in
      ap (λ (s : Slate). is_unused s.phase) (slate_more answers settings c q (Look at secs c) ∙ ap (slate_after answers (placed_slate answers settings c q)) p)
      ∙ unused_list answers k.seen k.unheard (placed_slate answers settings c q) (tied answers settings c q).slate.enter ∙ u

  unused_self : (q p : List Step) (s : Step) → Alike q p → is_unused (placed_slate answers settings (stepping s) q).phase ≡ true
      → is_unused (placed_slate answers settings (stepping s) (q ++ s ∷ [])).phase ≡ is_unused (placed_slate answers settings (stepping s) (p ++ s ∷ [])).phase
  unused_self q p (Own e) h u =
      unused_after q e u ∙ ap (λ (x : Membership). still_unused e.kind x.book) h.same_membership ∙ sym (unused_after p e (sym (h.same_unused e.client) ∙ u))
  unused_self q p (Look at secs d) h u = unused_look q at secs d u ∙ sym (unused_look p at secs d (sym (h.same_unused d) ∙ u))

  unused_alike_case : (b : Bool) (c : ℕ) (q p : List Step) (s : Step) → Alike q p → is_unused (placed_slate answers settings c q).phase ≡ b
      → is_unused (placed_slate answers settings c (q ++ s ∷ [])).phase ≡ is_unused (placed_slate answers settings c (p ++ s ∷ [])).phase
  unused_alike_case false c q p s h u = used_stays answers settings c q s u ∙ sym (used_stays answers settings c p s (sym (h.same_unused c) ∙ u))
  unused_alike_case true c q p s h u = ⊎_elim
      (λ (same : c ≡ stepping s).
      let su : is_unused (placed_slate answers settings (stepping s) q).phase ≡ true = rw (← same) u in
      subst (λ (d : ℕ). is_unused (placed_slate answers settings d (q ++ s ∷ [])).phase ≡ is_unused (placed_slate answers settings d (p ++ s ∷ [])).phase) (sym same) (unused_self q p s h su))
      (λ (apart : c ≢ stepping s).
      ap (λ (x : Slate). is_unused x.phase) (quiet_slate answers settings c q s (other_step c (knows settings c q) s apart)) ∙ h.same_unused c
      ∙ sym (ap (λ (x : Slate). is_unused x.phase) (quiet_slate answers settings c p s (other_step c (knows settings c p) s apart))))
      (cases_eq c (stepping s))

  alike_more : (q p : List Step) (s : Step) → Alike q p → Alike (q ++ s ∷ []) (p ++ s ∷ [])
  alike_more q p s h = record {
    same_membership = membership_alike q p s h;
    same_unused = λ c. unused_alike_case (is_unused (placed_slate answers settings c q).phase) c q p s h refl;
    same_slates = λ c m. (member_alike c q p s h m).slate;
    same_knows = λ c m. (member_alike c q p s h m).knows;
  }

  -- ---- what is sent
  gain_member : (b : Bool) (q p : List Step) (s : Step) → Alike q p → joined answers settings (stepping s) q ≡ b → joined answers settings (stepping s) (q ++ s ∷ []) ≡ true → placed_gain answers settings (stepping s) q s ≡ placed_gain answers settings (stepping s) p s
  gain_member true q p s h was m =
      let c = stepping s in
      gain_more answers settings c q s
      ∙ ap (λ x. sent_after answers x (puts c (knows settings c q) s)) (h.same_slates c was)
      ∙ ap (λ k. sent_after answers (placed_slate answers settings c p) (puts c k s)) (h.same_knows c was)
      ∙ sym (gain_more answers settings c p s)
  gain_member false q p s h was m = by s (came (stepping s) q s was m).1
    where
      by : (x : Step) → enters_at answers settings q (membership answers settings q) x ≡ true → placed_gain answers settings (stepping x) q x ≡ placed_gain answers settings (stepping x) p x
      by (Look at secs d) n = cc
      by (Own e) n =
          let a = entered q e (enters_by q e n) in
          let b = entered p e (enters_by p e (sym (enters_alike q p (Own e) h) ∙ n)) in
          a.gain ∙ ap (λ (x : Membership). (rule answers e (fresh (conf_of x.book))).1) h.same_membership ∙ sym b.gain

  gained_case : (b : Bool) (q p : List Step) (s : Step) → Alike q p → joined answers settings (stepping s) (q ++ s ∷ []) ≡ b → step_gained answers settings q s ≡ step_gained answers settings p s
  gained_case true q p s h m =
      let m' : joined answers settings (stepping s) (p ++ s ∷ []) ≡ true = ap (λ (x : Membership). list_any (nat_eq (stepping s)) x.members) (sym (membership_alike q p s h)) ∙ m in
      rw (m, m') (gain_member (joined answers settings (stepping s) q) q p s h refl m)
  gained_case false q p s h m =
      let m' : joined answers settings (stepping s) (p ++ s ∷ []) ≡ false = ap (λ (x : Membership). list_any (nat_eq (stepping s)) x.members) (sym (membership_alike q p s h)) ∙ m in
      rw (m, m') (ap (refused_offer (stepping s)) (reply_alike q p s h))

  pub gained_alike : (q p : List Step) (s : Step) → Alike q p → step_gained answers settings q s ≡ step_gained answers settings p s
  gained_alike q p s h = gained_case (joined answers settings (stepping s) (q ++ s ∷ [])) q p s h refl

  pub outs_alike : (r q p : List Step) → Alike q p → outs_after answers settings q r ≡ outs_after answers settings p r
  outs_alike [] q p h = refl
  outs_alike (x ∷ r) q p h =
      ap (λ (os : List Output). os ++ outs_after answers settings (q ++ x ∷ []) r) (gained_alike q p x h)
      ∙ ap (λ (os : List Output). step_gained answers settings p x ++ os) (outs_alike r (q ++ x ∷ []) (p ++ x ∷ []) (alike_more q p x h))

  pub outs_split : (p q r : List Step) → outs_after answers settings p (q ++ r) ≡ outs_after answers settings p q ++ outs_after answers settings (p ++ q) r
  outs_split p [] r = ap (λ (x : List Step). outs_after answers settings x r) (sym (append-nil p))
  outs_split p (x ∷ q) r = ap (λ (os : List Output). step_gained answers settings p x ++ os) (outs_split (p ++ x ∷ []) q r ∙ ap (λ (y : List Step). outs_after answers settings (p ++ x ∷ []) q ++ outs_after answers settings y r) (append_assoc p (x ∷ []) q)) ∙ sym (append_assoc (step_gained answers settings p x) (outs_after answers settings (p ++ x ∷ []) q) (outs_after answers settings (p ++ x ∷ q) r))

  -- a step that leaves all alike, and for which nothing is sent, changes nothing
  pub skipped : (q r : List Step) (s : Step) → step_gained answers settings q s ≡ [] → Alike (q ++ s ∷ []) q → outs answers settings (q ++ s ∷ r) ≡ outs answers settings (q ++ r)
  unfolding outs
  skipped q r s none alike =
      outs_split [] q (s ∷ r)
      ∙ (ap (λ (os : List Output). outs_after answers settings [] q ++ os) (ap (λ (os : List Output). os ++ outs_after answers settings (q ++ s ∷ []) r) none ∙ outs_alike r (q ++ s ∷ []) q alike)
      ∙ sym (outs_split [] q r))
