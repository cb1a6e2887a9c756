-- One event more.
use Rattle.dns_session.specs.Serving.{Serving}
use Rattle.std.proofs.Common.{◌≡◌, ◌≤◌, ℕ, arith, length, length-append, List, [], ◌∷◌, ◌++◌, true, false, refl, ap, sym, ◌∙◌, append_assoc}
use Rattle.std.proofs.lemmas.List.{append-nil}
use Rattle.std.proofs.lemmas.List.Elements.{filter-append}
use Rattle.std.proofs.Math.Seq.{take-append_seam}
use Rattle.dns_events.specs.declared.event.Event.{Event}
use Rattle.dns_session.specs.Slate.{Slate, fresh}
use Rattle.dns_session.specs.Rule.{rule}
use Rattle.dns_core.specs.Settings.{opening}
use Rattle.dns_core.specs.Own.{concerns, own}
use Rattle.dns_core.specs.Sent.{slate_after, sent_after, sent, slate}
use Rattle.dns_core.specs.Out.{joined, members_after, members, gained, out_after, out}
use Rattle.dns_core.specs.ByClient.{IsPrefix}
use Rattle.dns_events.specs.declared.settings.Settings.{Settings}

pub one_longer : (q : List Event) (e : Event) (n : ℕ) → n ≤ length q → n ≤ length (q ++ e ∷ [])
one_longer q e n h = simp length-append (omega arith)

own_some : (c : ℕ) (q : List Event) (e : Event) → concerns c e ≡ true → own c (q ++ e ∷ []) ≡ own c q ++ e ∷ []
own_some c q e h = rw (filter-append (concerns c) q (e ∷ []), h) refl

own_none : (c : ℕ) (q : List Event) (e : Event) → concerns c e ≡ false → own c (q ++ e ∷ []) ≡ own c q
own_none c q e h = rw (filter-append (concerns c) q (e ∷ []), h) (append-nil (own c q))

module _ (answers : Serving) where
  slate_after_snoc : (s : Slate) (q : List Event) (e : Event) → slate_after answers s (q ++ e ∷ []) ≡ (rule answers e (slate_after answers s q)).0
  slate_after_snoc s [] e = refl
  slate_after_snoc s (x ∷ q) e = slate_after_snoc (rule answers x s).0 q e

  sent_after_snoc : (s : Slate) (q : List Event) (e : Event) → sent_after answers s (q ++ e ∷ []) ≡ sent_after answers s q ++ (rule answers e (slate_after answers s q)).1
  sent_after_snoc s [] e = append-nil (rule answers e s).1
  sent_after_snoc s (x ∷ q) e = ap (λ os. (rule answers x s).1 ++ os) (sent_after_snoc (rule answers x s).0 q e) ∙ sym (append_assoc (rule answers x s).1 (sent_after answers (rule answers x s).0 q) (rule answers e (slate_after answers (rule answers x s).0 q)).1)

  pub sent_after_append : (s : Slate) (p r : List Event) → sent_after answers s (p ++ r) ≡ sent_after answers s p ++ sent_after answers (slate_after answers s p) r
  sent_after_append s [] r = refl
  sent_after_append s (x ∷ p) r = ap (λ os. (rule answers x s).1 ++ os) (sent_after_append (rule answers x s).0 p r) ∙ sym (append_assoc (rule answers x s).1 (sent_after answers (rule answers x s).0 p) (sent_after answers (slate_after answers (rule answers x s).0 p) r))

  module _ (settings : Settings) where
    -- what is sent for the first of some events is the front of what is sent for all
    pub sent_front : (p r : List Event) → IsPrefix (sent answers settings p) (sent answers settings (p ++ r))
    unfolding sent
    sent_front p r =
        let s = fresh (opening settings) in
        rw (sent_after_append s p r) (take-append_seam (sent_after answers s p) (sent_after answers (slate_after answers s p) r))

    pub slate_some : (c : ℕ) (q : List Event) (e : Event) → concerns c e ≡ true → slate answers settings c (q ++ e ∷ []) ≡ (rule answers e (slate answers settings c q)).0
    unfolding slate
    slate_some c q e h = ap (slate_after answers (fresh (opening settings))) (own_some c q e h) ∙ slate_after_snoc (fresh (opening settings)) (own c q) e

    pub slate_none : (c : ℕ) (q : List Event) (e : Event) → concerns c e ≡ false → slate answers settings c (q ++ e ∷ []) ≡ slate answers settings c q
    unfolding slate
    slate_none c q e h = ap (slate_after answers (fresh (opening settings))) (own_none c q e h)

    -- what a client's sent has more with one event more of its own
    pub sent_more : (c : ℕ) (q : List Event) (e : Event) → concerns c e ≡ true → sent answers settings (own c (q ++ e ∷ [])) ≡ sent answers settings (own c q) ++ (rule answers e (slate answers settings c q)).1
    unfolding sent slate
    sent_more c q e h =
        let s = fresh (opening settings) in
        ap (sent_after answers s) (own_some c q e h) ∙ sent_after_snoc s (own c q) e

    -- and what it has with one of another client
    pub sent_still : (c : ℕ) (q : List Event) (e : Event) → concerns c e ≡ false → sent answers settings (own c (q ++ e ∷ [])) ≡ sent answers settings (own c q)
    sent_still c q e h = ap (sent answers settings) (own_none c q e h)

    members_after_snoc : (p : List Event) (ms : List ℕ) (q : List Event) (e : Event) → members_after answers settings p ms (q ++ e ∷ []) ≡ joined answers settings (p ++ q) (members_after answers settings p ms q) e
    members_after_snoc p ms [] e = ap (λ x. joined answers settings x ms e) (sym (append-nil p))
    members_after_snoc p ms (x ∷ q) e = members_after_snoc (p ++ x ∷ []) (joined answers settings p ms x) q e ∙ ap (λ y. joined answers settings y (members_after answers settings (p ++ x ∷ []) (joined answers settings p ms x) q) e) (append_assoc p (x ∷ []) q)

    pub members_more : (q : List Event) (e : Event) → members answers settings (q ++ e ∷ []) ≡ joined answers settings q (members answers settings q) e
    unfolding members
    members_more q e = members_after_snoc [] [] q e

    out_after_snoc : (p q : List Event) (e : Event) → out_after answers settings p (q ++ e ∷ []) ≡ out_after answers settings p q ++ gained answers settings (p ++ q) e
    out_after_snoc p [] e = append-nil (gained answers settings p e) ∙ ap (λ x. gained answers settings x e) (sym (append-nil p))
    out_after_snoc p (x ∷ q) e =
        ap (λ os. gained answers settings p x ++ os) (out_after_snoc (p ++ x ∷ []) q e ∙ ap (λ y. out_after answers settings (p ++ x ∷ []) q ++ gained answers settings y e) (append_assoc p (x ∷ []) q))
        ∙ sym (append_assoc (gained answers settings p x) (out_after answers settings (p ++ x ∷ []) q) (gained answers settings (p ++ x ∷ q) e))

    -- what is sent with one event more
    pub out_more : (q : List Event) (e : Event) → out answers settings (q ++ e ∷ []) ≡ out answers settings q ++ gained answers settings q e
    unfolding out
    out_more q e = out_after_snoc [] q e
