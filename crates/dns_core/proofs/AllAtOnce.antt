-- If all look after each event that all hear, all are sent what they are sent if they hear of each at once.
use Rattle.dns_session.specs.Serving.{Serving}
use Rattle.std.proofs.Common.{◌≡◌, ℕ, ◌+◌, ◌<◌, ◌≤◌, List, [], ◌∷◌, ◌++◌, length, length-append, Bool, true, false, refl, ap, sym, ◌∙◌, subst, arith, lt-ltb, append_assoc}
use Rattle.std.specs.Prelude.{nat_eq, filter, map, if◌then◌else◌}
use Rattle.std.specs.List.{list_any, flat_map}
use Rattle.std.specs.List.Sorted.{IsStrictlySortedBy}
use Rattle.std.specs.Ordering.{nat_cmp}
use Rattle.std.proofs.lemmas.List.{append-nil}
use Rattle.dns_events.specs.declared.look.Look.{Look as State}
use Rattle.dns_admission.specs.Machine.{has_version, last_version}
use Rattle.dns_events.specs.declared.event.Event.{Event}
use Rattle.dns_events.specs.declared.event.Step.{Step}
use Rattle.dns_events.specs.declared.event.Step.TheVariants.{Own}
use Rattle.dns_session.specs.After.{slate_after, sent_after}
use Rattle.dns_session.specs.Rule.{rule}
use Rattle.dns_session.specs.Slate.{Slate, Effect, Conf, conf_of, conf_rule}
use Rattle.dns_core.specs.AtOnce.{look_by, undelayed}
use Rattle.dns_core.specs.Own.{is_wide, concerns}
use Rattle.dns_core.specs.Sent.{conf, slate}
use Rattle.dns_core.specs.Out.{gain, gained, heard, is_unused, joins, members, out, out_after}
use Rattle.dns_core.specs.ByClient.{is_member}
use Rattle.dns_core.specs.Books.{book_rule, is_entry}
use Rattle.dns_core.specs.Placed.{Knowledge, book_now, entries, knows, looks, placed}
use Rattle.dns_core.specs.Outs.{Membership, placed_slate, membership, step_gained, outs, outs_after}
use Rattle.dns_events.specs.declared.settings.Settings.{Settings}
use Rattle.dns_core.proofs.AtOnce.{closed_if, enters}
use Rattle.dns_core.proofs.Counted.{put_keeps}
use Rattle.dns_core.proofs.Gained.{concerns_all, conf_more, members_away, members_joined, members_kept, none_away}
use Rattle.dns_core.proofs.OutLemmas.{slate_some}
use Rattle.dns_session_map.proofs.Keys.{flat_among}
use Rattle.dns_core.proofs.Late.{NotOver, not_over}
use Rattle.dns_core.proofs.Looked.{over_idle, effect}
use Rattle.dns_core.proofs.Plain.{plain}
use Rattle.dns_core.proofs.Wide.{wide_not_new, wide_use}
use Rattle.dns_core.proofs.Placing.{knows_more}
use Rattle.dns_core.proofs.SameAtOnce.{Same, goes}
use Rattle.dns_core.proofs.Tied.{tied, wide_no_beginning}
use Rattle.dns_core.proofs.Stepping.{book_more, members_same, no_refusal, own_enters, quiet_gain, quiet_slate, wide_call, wide_quiet}
use Rattle.dns_core.proofs.StepsByClient.{joined}
use Rattle.dns_core.proofs.StepsAlike.{outs_split}
use Rattle.dns_core.proofs.StepsNothing.{gain_or_not, untaken_entry}
use Rattle.dns_core.proofs.StepsHeld.{members_rise}
use Rattle.dns_core.proofs.LooksInTurn.{Hears, flat_equal, looks_membership, looks_hear, looks_out, looks_unused, tells}

module _ (answers : Serving) (settings : Settings) where
  -- ---- an event that all hear, and a look of each of some, the members among them
  filter_wide : (e : Event) (ms : List ℕ) → is_wide e.kind ≡ true → filter (λ c. concerns c e) ms ≡ ms
  filter_wide e [] w = refl
  filter_wide e (m ∷ ms) w = rw (concerns_all m e w, filter_wide e ms w) refl

  wide_gained : (q : List Event) (e : Event) → is_wide e.kind ≡ true → gained answers settings q e ≡ flat_map (λ c. (rule answers e (slate answers settings c q)).1) (members answers settings q)
  wide_gained q e w =
      let n = wide_not_new answers settings q e w in
      ap (λ os. flat_map (λ c. gain answers settings c q e) (heard answers settings q e) ++ os) (none_away answers settings q e n)
      ∙ append-nil (flat_map (λ c. gain answers settings c q e) (heard answers settings q e))
      ∙ ap (flat_map (λ c. gain answers settings c q e)) (filter_wide e (members answers settings (q ++ e ∷ [])) w ∙ members_kept answers settings q e n)

  -- the entry says what the event says, and does what it does
  entry_told : (h : Bool) (e : Event) (b : State) (s : Slate) → is_wide e.kind ≡ true → has_version b ≡ true → s.conf ≡ conf_of b → NotOver s → is_entry b e.kind ≡ h → effect answers (if h then e ∷ [] else []) s ≡ rule answers e s
  entry_told true e b s w v c n is = ap (λ os. let r : Effect = ((rule answers e s).0, os) in r) (append-nil (rule answers e s).1)
  entry_told false e b s w v c n is = sym (over_idle answers e s w n (ap (λ (k : Conf). k.over) c ∙ closed_if e.kind b w v is))

  -- after the event, before the looks
  record Wide (q : List Event) (p : List Step) (e : Event) : Type 0 where
    members_stay : (membership answers settings (p ++ Own e ∷ [])).members ≡ members answers settings q
    book : (membership answers settings (p ++ Own e ∷ [])).book ≡ book_rule (membership answers settings p).book e.kind
    gained : step_gained answers settings p (Own e) ≡ []
    slates : (c : ℕ) → placed_slate answers settings c (p ++ Own e ∷ []) ≡ placed_slate answers settings c p
    -- of a member
    tells : (c : ℕ) → joined answers settings c p ≡ true → effect answers (knows settings c (p ++ Own e ∷ [])).unheard (placed_slate answers settings c p) ≡ rule answers e (slate answers settings c q)

  wide_unheard : (p : List Step) (e : Event) (c : ℕ) → is_wide e.kind ≡ true → (knows settings c p).unheard ≡ [] → (knows settings c (p ++ Own e ∷ [])).unheard ≡ (if is_entry (membership answers settings p).book e.kind then e ∷ [] else [])
  wide_unheard p e c w h =
      let k = knows settings c p in
      let o = wide_no_beginning e.kind w in
      let l : looks c k.began (Own e) ≡ false = rw o refl in
      let is : is_entry (book_now k) e.kind ≡ is_entry (membership answers settings p).book e.kind = ap (λ x. is_entry x e.kind) (sym (tied answers settings c p).book) ∙ untaken_entry answers settings e.kind (membership answers settings p).book in
      ap (λ (x : Knowledge). x.unheard) (knows_more settings c p (Own e)) ∙ rw l (ap (λ es. es ++ entries (book_now k) (Own e)) h ∙ ap (λ z. if z then e ∷ [] else []) is)

  wide_goes : (q : List Event) (p : List Step) (e : Event) → is_wide e.kind ≡ true → Same answers settings q p → length q < last_version → Wide q p e
  wide_goes q p e w h lt =
      let c = e.client in
      let o = wide_no_beginning e.kind w in
      let b = (membership answers settings p).book in
      let v : has_version b ≡ true = lt-ltb b.version last_version (omega (arith, h.few, lt)) in
      record {
        members_stay = members_same answers settings p (Own e) (own_enters answers settings p e o) ∙ h.same_members;
        book = book_more answers settings p (Own e) ∙ wide_call e.kind b (placed_slate answers settings c p) (joined answers settings c p) w;
        gained = gain_or_not answers settings (joined answers settings c (p ++ Own e ∷ [])) p (Own e) refl (λ m. quiet_gain answers settings c p (Own e) (wide_quiet c (knows settings c p) e w)) (no_refusal e.kind b (placed_slate answers settings c p) (joined answers settings c p) c o);
        slates = λ d. quiet_slate answers settings d p (Own e) (wide_quiet d (knows settings d p) e w);
        tells = λ d m.
            let s = slate answers settings d q in
            ap (λ es. effect answers es (placed_slate answers settings d p)) (wide_unheard p e d w (h.heard_all d m))
            ∙ ap (effect answers (if is_entry b e.kind then e ∷ [] else [])) (h.slates d m)
            ∙ entry_told (is_entry b e.kind) e b s w v ((plain answers settings d q).conf ∙ sym h.shown) (not_over answers settings d q) refl;
      }

  all_look : (cs : List ℕ) (q : List Event) (p : List Step) (e : Event) → IsStrictlySortedBy nat_cmp cs → is_wide e.kind ≡ true → Same answers settings q p → length q < last_version
      → ((c : ℕ) → is_member answers settings c q ≡ true → list_any (nat_eq c) cs ≡ true)
      → outs_after answers settings (p ++ Own e ∷ []) (map (look_by e) cs) ≡ gained answers settings q e
  all_look cs q p e so w h lt there =
      let p1 = p ++ Own e ∷ [] in
      let g = wide_goes q p e w h lt in
      let ks = (membership answers settings p1).members in
      let was : (c : ℕ) → joined answers settings c p1 ≡ true → joined answers settings c p ≡ true = λ c m. ap (list_any (nat_eq c)) (h.same_members ∙ sym g.members_stay) ∙ m in
      let among : (c : ℕ) → list_any (nat_eq c) ks ≡ true → list_any (nat_eq c) cs ≡ true = λ c m. there c (ap (list_any (nat_eq c)) (sym g.members_stay) ∙ m) in
      let silent : (c : ℕ) → list_any (nat_eq c) cs ≡ true → list_any (nat_eq c) ks ≡ false → tells answers settings p1 c ≡ [] = λ c m n. ap (λ b. if b then sent_after answers (placed_slate answers settings c p1) (knows settings c p1).unheard else []) n in
      let one : (c : ℕ) → list_any (nat_eq c) ks ≡ true → tells answers settings p1 c ≡ (rule answers e (slate answers settings c q)).1 = λ c m.
      ap (λ b. if b then sent_after answers (placed_slate answers settings c p1) (knows settings c p1).unheard else []) m
      ∙ ap (λ s. sent_after answers s (knows settings c p1).unheard) (g.slates c) ∙ ap (λ (t : Effect). t.1) (g.tells c (was c m)) in
      looks_out answers settings cs p1 e so
      ∙ sym (flat_among (tells answers settings p1) cs ks (members_rise answers settings p1) so among silent)
      ∙ flat_equal (tells answers settings p1) (λ c. (rule answers e (slate answers settings c q)).1) ks one
      ∙ ap (flat_map (λ c. (rule answers e (slate answers settings c q)).1)) g.members_stay
      ∙ sym (wide_gained q e w)

  all_same : (cs : List ℕ) (q : List Event) (p : List Step) (e : Event) → is_wide e.kind ≡ true → Same answers settings q p → length q < last_version
      → ((c : ℕ) → is_member answers settings c q ≡ true → list_any (nat_eq c) cs ≡ true)
      → Same answers settings (q ++ e ∷ []) ((p ++ Own e ∷ []) ++ map (look_by e) cs)
  all_same cs q p e w h lt there =
      let p1 = p ++ Own e ∷ [] in
      let b = (membership answers settings p).book in
      let g = wide_goes q p e w h lt in
      let hl = looks_membership answers settings cs p1 e in
      let v : has_version b ≡ true = lt-ltb b.version last_version (omega (arith, h.few, lt)) in
      let en = enters e.kind b w v in
      let bk : (membership answers settings (p1 ++ map (look_by e) cs)).book ≡ book_rule b e.kind = ap (λ (x : Membership). x.book) hl ∙ g.book in
      let fewer : (book_rule b e.kind).version ≤ length (q ++ e ∷ []) = simp length-append (omega (arith, en.version, h.few)) in
      let after : (c : ℕ) → slate answers settings c (q ++ e ∷ []) ≡ (rule answers e (slate answers settings c q)).0 = λ c. slate_some answers settings c q e (concerns_all c e w) in
      let now : (c : ℕ) → joined answers settings c (p1 ++ map (look_by e) cs) ≡ list_any (nat_eq c) (members answers settings q) = λ c. ap (λ (x : Membership). list_any (nat_eq c) x.members) hl ∙ ap (list_any (nat_eq c)) g.members_stay in
      let was : (c : ℕ) → joined answers settings c (p1 ++ map (look_by e) cs) ≡ true → joined answers settings c p ≡ true = λ c m. ap (list_any (nat_eq c)) h.same_members ∙ sym (now c) ∙ m in
      let hear : (c : ℕ) → joined answers settings c (p1 ++ map (look_by e) cs) ≡ true → Hears answers settings c p1 (knows settings c p1).unheard (p1 ++ map (look_by e) cs) = λ c m. looks_hear answers settings cs p1 e c (there c (sym (now c) ∙ m)) in
      record {
        same_members = ap (λ (x : Membership). x.members) hl ∙ g.members_stay ∙ sym (members_kept answers settings q e (wide_not_new answers settings q e w));
        shown = ap conf_of bk ∙ en.conf ∙ ap (conf_rule e.kind) h.shown ∙ sym (conf_more settings q e);
        few = rw bk fewer;
        unused = λ c. looks_unused answers settings cs p1 e c ∙ ap (λ (s : Slate). is_unused s.phase) (g.slates c) ∙ h.unused c ∙ sym (ap (λ (s : Slate). is_unused s.phase) (after c) ∙ wide_use answers e (slate answers settings c q) w);
        slates = λ c m. (hear c m).slate ∙ ap (λ s. slate_after answers s (knows settings c p1).unheard) (g.slates c) ∙ ap (λ (t : Effect). t.0) (g.tells c (was c m)) ∙ sym (after c);
        heard_all = λ c m. (hear c m).unheard;
      }

  -- ---- the whole list

  more_case : (j : Bool) (c : ℕ) (q : List Event) (e : Event) → joins answers settings q (members answers settings q) e ≡ j → is_member answers settings c q ≡ true → is_member answers settings c (q ++ e ∷ []) ≡ true
  more_case true c q e j m = ap (list_any (nat_eq c)) (members_joined answers settings q e j) ∙ put_keeps c e.client (members answers settings q) m
  more_case false c q e j m = ap (list_any (nat_eq c)) (members_away answers settings q e j) ∙ m

  members_on : (c : ℕ) (es : List Event) (q : List Event) → is_member answers settings c q ≡ true → is_member answers settings c (q ++ es) ≡ true
  members_on c [] q m = ap (is_member answers settings c) (append-nil q) ∙ m
  members_on c (e ∷ es) q m = ap (is_member answers settings c) (sym (append_assoc q (e ∷ []) es)) ∙ members_on c es (q ++ e ∷ []) (more_case (joins answers settings q (members answers settings q) e) c q e refl m)

  AllIn : List ℕ → List Event → Type 0
  AllIn cs es = (c : ℕ) → is_member answers settings c es ≡ true → list_any (nat_eq c) cs ≡ true

  abbrev Claim : List ℕ → List Event → Type 0
  Claim cs es = (q : List Event) (p : List Step) → Same answers settings q p → length q + length es ≤ last_version → AllIn cs (q ++ es) → outs_after answers settings p (undelayed cs es) ≡ out_after answers settings q es

  one_shorter : (q : List Event) (e : Event) (es : List Event) → length q + length (e ∷ es) ≤ last_version → length (q ++ e ∷ []) + length es ≤ last_version
  one_shorter q e es h = simp length-append (omega (arith, h))

  next_in : (cs : List ℕ) (q : List Event) (e : Event) (es : List Event) → AllIn cs (q ++ e ∷ es) → AllIn cs ((q ++ e ∷ []) ++ es)
  next_in cs q e es h = subst (AllIn cs) (sym (append_assoc q (e ∷ []) es)) h

  event_case : (w : Bool) (cs : List ℕ) (e : Event) (es : List Event) (q : List Event) (p : List Step) → IsStrictlySortedBy nat_cmp cs → Claim cs es → Same answers settings q p → length q + length (e ∷ es) ≤ last_version → AllIn cs (q ++ e ∷ es) → is_wide e.kind ≡ w
      → step_gained answers settings p (Own e) ++ outs_after answers settings (p ++ Own e ∷ []) (if w then map (look_by e) cs ++ undelayed cs es else undelayed cs es) ≡ gained answers settings q e ++ out_after answers settings (q ++ e ∷ []) es
  unfolding AllIn
  event_case false cs e es q p so ih h few there w =
      let g = goes answers settings q p e w h in
      ap (λ os. os ++ outs_after answers settings (p ++ Own e ∷ []) (undelayed cs es)) g.gained
      ∙ ap (λ os. gained answers settings q e ++ os) (ih (q ++ e ∷ []) (p ++ Own e ∷ []) g.same (one_shorter q e es few) (next_in cs q e es there))
  event_case true cs e es q p so ih h few there w =
      let lt : length q < last_version = omega (arith, few) in
      let here : (c : ℕ) → is_member answers settings c q ≡ true → list_any (nat_eq c) cs ≡ true = λ c m. there c (members_on c (e ∷ es) q m) in
      let p1 = p ++ Own e ∷ [] in
      ap (λ os. os ++ outs_after answers settings p1 (map (look_by e) cs ++ undelayed cs es)) (wide_goes q p e w h lt).gained
      ∙ outs_split answers settings p1 (map (look_by e) cs) (undelayed cs es)
      ∙ ap (λ os. os ++ outs_after answers settings (p1 ++ map (look_by e) cs) (undelayed cs es)) (all_look cs q p e so w h lt here)
      ∙ ap (λ os. gained answers settings q e ++ os) (ih (q ++ e ∷ []) (p1 ++ map (look_by e) cs) (all_same cs q p e w h lt here) (one_shorter q e es few) (next_in cs q e es there))

  all_out : (cs : List ℕ) (es : List Event) → IsStrictlySortedBy nat_cmp cs → Claim cs es
  all_out cs [] so q p h few there = refl
  all_out cs (e ∷ es) so q p h few there = event_case (is_wide e.kind) cs e es q p so (all_out cs es so) h few there refl

  none_same : Same answers settings [] []
  unfolding membership members conf placed_slate slate placed
  none_same = record { same_members = refl; shown = refl; few = omega arith; unused = λ c. refl; slates = λ c m. cc; heard_all = λ c m. cc }

  -- if all members look after each event that all hear, by rising number
  pub at_once_all : (cs : List ℕ) (es : List Event) → IsStrictlySortedBy nat_cmp cs → ((c : ℕ) → is_member answers settings c es ≡ true → list_any (nat_eq c) cs ≡ true) → length es ≤ last_version
      → outs answers settings (undelayed cs es) ≡ out answers settings es
  unfolding outs out AllIn
  at_once_all cs es so there few = all_out cs es so [] [] none_same (omega (arith, few)) there
