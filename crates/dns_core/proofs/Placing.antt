-- One step more.
use Rattle.dns_session.specs.Serving.{Serving}
use Rattle.std.proofs.Common.{◌≡◌, ℕ, List, [], ◌∷◌, ◌++◌, length, drop, refl, ap, sym, ◌∙◌, append_assoc}
use Rattle.std.proofs.lemmas.List.{append-nil, drop_at}
use Rattle.dns_admission.specs.Machine.{new_state}
use Rattle.dns_events.specs.declared.event.Event.{Event}
use Rattle.dns_events.specs.declared.event.Step.{Step}
use Rattle.dns_session.specs.After.{slate_after, sent_after}
use Rattle.dns_session.specs.Rule.{rule}
use Rattle.dns_session.specs.Slate.{Slate, fresh}
use Rattle.dns_core.specs.Settings.{opening}
use Rattle.dns_core.specs.Sent.{sent}
use Rattle.dns_core.specs.Placed.{Knowledge, puts, learns, place, learned, placed, knows, knowledge_at_first}
use Rattle.dns_core.specs.Outs.{Membership, placed_slate, placed_gain, next_membership, membership_after, membership, step_gained, outs_after, outs}
use Rattle.dns_events.specs.declared.settings.Settings.{Settings}
use Rattle.dns_core.proofs.OutLemmas.{sent_after_append}

place_snoc : (c : ℕ) (k : Knowledge) (q : List Step) (s : Step) → place c k (q ++ s ∷ []) ≡ place c k q ++ puts c (learned c k q) s
place_snoc c k [] s = append-nil (puts c k s)
place_snoc c k (x ∷ q) s = ap (λ es. puts c k x ++ es) (place_snoc c (learns c k x) q s) ∙ sym (append_assoc (puts c k x) (place c (learns c k x) q) (puts c (learned c (learns c k x) q) s))

learned_snoc : (c : ℕ) (k : Knowledge) (q : List Step) (s : Step) → learned c k (q ++ s ∷ []) ≡ learns c (learned c k q) s
learned_snoc c k [] s = refl
learned_snoc c k (x ∷ q) s = learned_snoc c (learns c k x) q s

pub placed_more : (settings : Settings) (c : ℕ) (q : List Step) (s : Step) → placed settings c (q ++ s ∷ []) ≡ placed settings c q ++ puts c (knows settings c q) s
unfolding placed knows
placed_more settings c q s = place_snoc c (knowledge_at_first settings) q s

pub knows_more : (settings : Settings) (c : ℕ) (q : List Step) (s : Step) → knows settings c (q ++ s ∷ []) ≡ learns c (knows settings c q) s
unfolding knows
knows_more settings c q s = learned_snoc c (knowledge_at_first settings) q s

module _ (answers : Serving) where
  pub slate_append : (es fs : List Event) (s : Slate) → slate_after answers s (es ++ fs) ≡ slate_after answers (slate_after answers s es) fs
  slate_append [] fs s = refl
  slate_append (e ∷ es) fs s = slate_append es fs (rule answers e s).0

  module _ (settings : Settings) where
    pub slate_more : (c : ℕ) (q : List Step) (s : Step) → placed_slate answers settings c (q ++ s ∷ []) ≡ slate_after answers (placed_slate answers settings c q) (puts c (knows settings c q) s)
    unfolding placed_slate
    slate_more c q s = ap (slate_after answers (fresh (opening settings))) (placed_more settings c q s) ∙ slate_append (placed settings c q) (puts c (knows settings c q) s) (fresh (opening settings))

    pub gain_more : (c : ℕ) (q : List Step) (s : Step) → placed_gain answers settings c q s ≡ sent_after answers (placed_slate answers settings c q) (puts c (knows settings c q) s)
    unfolding placed_gain sent placed_slate
    gain_more c q s =
        let f = fresh (opening settings) in
        let before = sent_after answers f (placed settings c q) in
        let more = sent_after answers (slate_after answers f (placed settings c q)) (puts c (knows settings c q) s) in
        ap (λ es. drop (length before) (sent_after answers f es)) (placed_more settings c q s)
        ∙ ap (drop (length before)) (sent_after_append answers f (placed settings c q) (puts c (knows settings c q) s))
        ∙ drop_at before more (length before) refl

    membership_snoc : (p : List Step) (h : Membership) (q : List Step) (s : Step) → membership_after answers settings p h (q ++ s ∷ []) ≡ next_membership answers settings (p ++ q) (membership_after answers settings p h q) s
    membership_snoc p h [] s = ap (λ x. next_membership answers settings x h s) (sym (append-nil p))
    membership_snoc p h (x ∷ q) s = membership_snoc (p ++ x ∷ []) (next_membership answers settings p h x) q s ∙ ap (λ y. next_membership answers settings y (membership_after answers settings (p ++ x ∷ []) (next_membership answers settings p h x) q) s) (append_assoc p (x ∷ []) q)

    pub membership_more : (q : List Step) (s : Step) → membership answers settings (q ++ s ∷ []) ≡ next_membership answers settings q (membership answers settings q) s
    unfolding membership
    membership_more q s = membership_snoc [] (record { book = new_state settings.dgram settings.stream; members = [] }) q s

    outs_snoc : (p q : List Step) (s : Step) → outs_after answers settings p (q ++ s ∷ []) ≡ outs_after answers settings p q ++ step_gained answers settings (p ++ q) s
    outs_snoc p [] s = append-nil (step_gained answers settings p s) ∙ ap (λ x. step_gained answers settings x s) (sym (append-nil p))
    outs_snoc p (x ∷ q) s =
        ap (λ os. step_gained answers settings p x ++ os) (outs_snoc (p ++ x ∷ []) q s ∙ ap (λ y. outs_after answers settings (p ++ x ∷ []) q ++ step_gained answers settings y s) (append_assoc p (x ∷ []) q))
        ∙ sym (append_assoc (step_gained answers settings p x) (outs_after answers settings (p ++ x ∷ []) q) (step_gained answers settings (p ++ x ∷ q) s))

    -- what is sent with one step more
    pub outs_more : (q : List Step) (s : Step) → outs answers settings (q ++ s ∷ []) ≡ outs answers settings q ++ step_gained answers settings q s
    unfolding outs
    outs_more q s = outs_snoc [] q s
