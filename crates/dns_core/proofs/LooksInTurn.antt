-- Some clients look, one after another.
use Rattle.dns_session.specs.Serving.{Serving}
use Rattle.std.proofs.Common.{◌≡◌, ◌≢◌, ℕ, List, [], ◌∷◌, ◌++◌, Bool, true, false, refl, ap, sym, ◌∙◌, subst, ⊎_elim, append_assoc}
use Rattle.std.specs.Prelude.{nat_eq, map, if◌then◌else◌}
use Rattle.std.specs.List.{list_any, flat_map}
use Rattle.std.specs.List.Sorted.{IsStrictlySortedBy}
use Rattle.std.specs.Ordering.{nat_cmp}
use Rattle.std.proofs.lemmas.Bool.{cases_eq, eq-eqb, ne_eqb}
use Rattle.std.proofs.lemmas.List.{append-nil}
use Rattle.std.proofs.lemmas.Map.Keys.{sorted_head, sorted_tail}
use Rattle.std.proofs.Math.Bool.{or-true}
use Rattle.dns_events.specs.declared.event.Event.{Event}
use Rattle.dns_events.specs.declared.event.Output.{Output}
use Rattle.dns_events.specs.declared.event.Step.{Step}
use Rattle.dns_session.specs.After.{slate_after, sent_after}
use Rattle.dns_session.specs.Slate.{Slate}
use Rattle.dns_core.specs.AtOnce.{look_by}
use Rattle.dns_core.specs.Out.{is_unused}
use Rattle.dns_core.specs.Placed.{Knowledge, knows, puts}
use Rattle.dns_core.specs.Outs.{Membership, placed_slate, placed_gain, membership, step_gained, outs_after}
use Rattle.dns_events.specs.declared.settings.Settings.{Settings}
use Rattle.dns_session_map.proofs.Keys.{less_absent}
use Rattle.dns_core.proofs.Placing.{knows_more, slate_more, gain_more}
use Rattle.dns_core.proofs.Stepping.{look_quiet, quiet_slate}
use Rattle.dns_core.proofs.StepsByClient.{joined}
use Rattle.dns_core.proofs.StepsNothing.{membership_kept, look_knows, look_unused}

-- ---- numbers
pub flat_equal : {X : Type 0} (f g : ℕ → List X) (cs : List ℕ) → ((c : ℕ) → list_any (nat_eq c) cs ≡ true → f c ≡ g c) → flat_map f cs ≡ flat_map g cs
flat_equal f g [] h = refl
flat_equal f g (c ∷ cs) h =
    let here : f c ≡ g c = h c (rw (eq-eqb c c refl) refl) in
    let rest = flat_equal f g cs (λ d there. h d (rw there (or-true (nat_eq d c)))) in
    rw (here, rest) refl

not_first : (c d : ℕ) (ds : List ℕ) → IsStrictlySortedBy nat_cmp (d ∷ ds) → list_any (nat_eq c) ds ≡ true → c ≢ d
not_first c d ds so there same =
    let absent = less_absent d ds (sorted_head nat_cmp d ds so) in
    let t : list_any (nat_eq d) ds ≡ true = rw same at there in
    let no : true ≡ false = sym t ∙ absent in cc

module _ (answers : Serving) (settings : Settings) where
  -- ---- looks of some, one after another
  -- what a look of a client says
  abbrev pub tells : List Step → ℕ → List Output
  tells p c = if joined answers settings c p then sent_after answers (placed_slate answers settings c p) (knows settings c p).unheard else []

  look_here : (p : List Step) (e : Event) (c : ℕ) → step_gained answers settings p (look_by e c) ≡ tells p c
  look_here p e c =
      let s = look_by e c in
      let k = knows settings c p in
      let self = eq-eqb c c refl in
      let u : puts c k s ≡ k.unheard = rw self (append-nil k.unheard) in
      let now : joined answers settings c (p ++ s ∷ []) ≡ joined answers settings c p = ap (λ (x : Membership). list_any (nat_eq c) x.members) (membership_kept answers settings p s refl refl) in
      ap (λ b. if b then placed_gain answers settings c p s else []) now
      ∙ ap (λ os. if joined answers settings c p then os else []) (gain_more answers settings c p s ∙ ap (sent_after answers (placed_slate answers settings c p)) u)

  record Stays (c : ℕ) (p : List Step) (p' : List Step) : Type 0 where
    slate : placed_slate answers settings c p' ≡ placed_slate answers settings c p
    knows : knows settings c p' ≡ knows settings c p

  other_look : (p : List Step) (e : Event) (d c : ℕ) → c ≢ d → Stays c p (p ++ look_by e d ∷ [])
  other_look p e d c apart = record {
    slate = quiet_slate answers settings c p (look_by e d) (look_quiet c d e.at e.secs (knows settings c p) apart);
    knows = knows_more settings c p (look_by e d) ∙ look_knows answers settings c e.at e.secs d (knows settings c p) apart;
  }

  look_membership : (p : List Step) (e : Event) (d : ℕ) → membership answers settings (p ++ look_by e d ∷ []) ≡ membership answers settings p
  look_membership p e d = membership_kept answers settings p (look_by e d) refl refl

  other_tells : (p : List Step) (e : Event) (d c : ℕ) → c ≢ d → tells (p ++ look_by e d ∷ []) c ≡ tells p c
  other_tells p e d c apart =
      let st = other_look p e d c apart in
      let f : Bool → Slate → Knowledge → List Output = λ b s k. if b then sent_after answers s k.unheard else [] in
      ap (λ (x : Membership). f (list_any (nat_eq c) x.members) (placed_slate answers settings c (p ++ look_by e d ∷ [])) (knows settings c (p ++ look_by e d ∷ []))) (look_membership p e d)
      ∙ ap (λ x. f (joined answers settings c p) x (knows settings c (p ++ look_by e d ∷ []))) st.slate
      ∙ ap (λ x. f (joined answers settings c p) (placed_slate answers settings c p) x) st.knows

  pub looks_out : (ds : List ℕ) (p : List Step) (e : Event) → IsStrictlySortedBy nat_cmp ds → outs_after answers settings p (map (look_by e) ds) ≡ flat_map (tells p) ds
  looks_out [] p e so = refl
  looks_out (d ∷ ds) p e so =
      ap (λ os. os ++ outs_after answers settings (p ++ look_by e d ∷ []) (map (look_by e) ds)) (look_here p e d)
      ∙ ap (λ os. tells p d ++ os) (looks_out ds (p ++ look_by e d ∷ []) e (sorted_tail nat_cmp d ds so) ∙ flat_equal (tells (p ++ look_by e d ∷ [])) (tells p) ds (λ c there. other_tells p e d c (not_first c d ds so there)))

  -- and what they leave
  pub looks_membership : (ds : List ℕ) (p : List Step) (e : Event) → membership answers settings (p ++ map (look_by e) ds) ≡ membership answers settings p
  looks_membership [] p e = ap (membership answers settings) (append-nil p)
  looks_membership (d ∷ ds) p e = ap (membership answers settings) (sym (append_assoc p (look_by e d ∷ []) (map (look_by e) ds))) ∙ looks_membership ds (p ++ look_by e d ∷ []) e ∙ look_membership p e d

  pub looks_unused : (ds : List ℕ) (p : List Step) (e : Event) (c : ℕ) → is_unused (placed_slate answers settings c (p ++ map (look_by e) ds)).phase ≡ is_unused (placed_slate answers settings c p).phase
  looks_unused [] p e c = ap (λ x. is_unused (placed_slate answers settings c x).phase) (append-nil p)
  looks_unused (d ∷ ds) p e c =
      ap (λ x. is_unused (placed_slate answers settings c x).phase) (sym (append_assoc p (look_by e d ∷ []) (map (look_by e) ds)))
      ∙ looks_unused ds (p ++ look_by e d ∷ []) e c
      ∙ ⊎_elim
      (λ (same : c ≡ d). rw same (look_unused answers settings (is_unused (placed_slate answers settings d p).phase) p e.at e.secs d refl))
      (λ (apart : c ≢ d). ap (λ (s : Slate). is_unused s.phase) (other_look p e d c apart).slate)
      (cases_eq c d)

  -- a client that has heard of these events
  pub record Hears (c : ℕ) (p : List Step) (es : List Event) (p' : List Step) : Type 0 where
    pub slate : placed_slate answers settings c p' ≡ slate_after answers (placed_slate answers settings c p) es
    pub unheard : (knows settings c p').unheard ≡ []

  look_self : (p : List Step) (e : Event) (c : ℕ) → Hears c p (knows settings c p).unheard (p ++ look_by e c ∷ [])
  look_self p e c =
      let s = look_by e c in
      let k = knows settings c p in
      let self = eq-eqb c c refl in
      let u : puts c k s ≡ k.unheard = rw self (append-nil k.unheard) in
      record {
        slate = slate_more answers settings c p s ∙ ap (slate_after answers (placed_slate answers settings c p)) u;
        unheard = ap (λ (x : Knowledge). x.unheard) (knows_more settings c p s) ∙ rw self refl;
      }

  moved : (c : ℕ) (p : List Step) (es : List Event) (p' p'' : List Step) → p'' ≡ p' → Hears c p es p' → Hears c p es p''
  moved c p es p' p'' same h = rw same h

  -- who has heard all stays so
  looks_idle : (ds : List ℕ) (p : List Step) (e : Event) (c : ℕ) → (knows settings c p).unheard ≡ [] → Hears c p [] (p ++ map (look_by e) ds)
  looks_idle [] p e c h = moved c p [] p (p ++ []) (append-nil p) (record { slate = refl; unheard = h })
  looks_idle (d ∷ ds) p e c h =
      let p1 = p ++ look_by e d ∷ [] in
      let one : Hears c p [] p1 = ⊎_elim
      (λ (same : c ≡ d).
      let s = look_self p e d in
      let h' : (knows settings d p).unheard ≡ [] = rw same at h in
      let a : Hears d p [] p1 = record { slate = s.slate ∙ ap (slate_after answers (placed_slate answers settings d p)) h'; unheard = s.unheard } in
      subst (λ (x : ℕ). Hears x p [] p1) (sym same) a)
      (λ (apart : c ≢ d). let o = other_look p e d c apart in record { slate = o.slate; unheard = ap (λ (k : Knowledge). k.unheard) o.knows ∙ h })
      (cases_eq c d) in
      let rest = looks_idle ds p1 e c one.unheard in
      moved c p [] (p1 ++ map (look_by e) ds) (p ++ map (look_by e) (d ∷ ds)) (sym (append_assoc p (look_by e d ∷ []) (map (look_by e) ds))) (record { slate = rest.slate ∙ one.slate; unheard = rest.unheard })

  pub looks_hear : (ds : List ℕ) (p : List Step) (e : Event) (c : ℕ) → list_any (nat_eq c) ds ≡ true → Hears c p (knows settings c p).unheard (p ++ map (look_by e) ds)
  looks_hear [] p e c there = cc
  looks_hear (d ∷ ds) p e c there =
      let p1 = p ++ look_by e d ∷ [] in
      let end = sym (append_assoc p (look_by e d ∷ []) (map (look_by e) ds)) in
      ⊎_elim
      (λ (same : c ≡ d).
      let s = look_self p e d in
      let rest = looks_idle ds p1 e d s.unheard in
      let a : Hears d p (knows settings d p).unheard (p1 ++ map (look_by e) ds) = record { slate = rest.slate ∙ s.slate; unheard = rest.unheard } in
      subst (λ (x : ℕ). Hears x p (knows settings x p).unheard (p ++ map (look_by e) (d ∷ ds))) (sym same) (moved d p (knows settings d p).unheard (p1 ++ map (look_by e) ds) (p ++ map (look_by e) (d ∷ ds)) end a))
      (λ (apart : c ≢ d).
      let o = other_look p e d c apart in
      let ne : nat_eq c d ≡ false = ne_eqb c d apart in
      let t : list_any (nat_eq c) ds ≡ true = rw ne at there in
      let rest = looks_hear ds p1 e c t in
      moved c p (knows settings c p).unheard (p1 ++ map (look_by e) ds) (p ++ map (look_by e) (d ∷ ds)) end (record {
        slate = rest.slate ∙ ap (λ (k : Knowledge). slate_after answers (placed_slate answers settings c p1) k.unheard) o.knows ∙ ap (λ s. slate_after answers s (knows settings c p).unheard) o.slate;
        unheard = rest.unheard;
      }))
      (cases_eq c d)
