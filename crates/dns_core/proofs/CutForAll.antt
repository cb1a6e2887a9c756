-- A piece cut in two changes nothing of what all are sent for some events.
use Rattle.dns_session.specs.Serving.{Serving}
use Rattle.std.proofs.Common.{◌≡◌, ◌≢◌, ℕ, List, [], ◌∷◌, ◌++◌, Bool, true, false, refl, ap, sym, ◌∙◌, ⊎_elim, append_assoc}
use Rattle.std.specs.Prelude.{nat_eq, if◌then◌else◌}
use Rattle.std.specs.List.{list_any}
use Rattle.std.proofs.lemmas.Bool.{cases_eq}
use Rattle.dns_events.specs.declared.event.Event.{Event}
use Rattle.dns_events.specs.declared.event.Output.{Output}
use Rattle.dns_session.specs.Pieces.{IsCut, piece_of}
use Rattle.dns_session.specs.Rule.{rule}
use Rattle.dns_session.specs.Slate.{Slate}
use Rattle.dns_core.specs.Sent.{slate}
use Rattle.dns_core.specs.Out.{is_new, is_unused, members, gained, out, out_after}
use Rattle.dns_core.specs.ByClient.{is_member}
use Rattle.dns_events.specs.declared.settings.Settings.{Settings}
use Rattle.dns_core.proofs.Gained.{conf_kept, members_kept, slate_other, slate_same, unused_kept}
use Rattle.dns_core.proofs.Heard.{gained_own}
use Rattle.dns_core.proofs.Nothing.{Alike, out_alike, out_split}
use Rattle.dns_core.proofs.AfterOwnEvent.{own_not_new}

module _ (answers : Serving) (settings : Settings) (n at secs : ℕ) where
  abbrev event : List ℕ → Event
  event o = piece_of n at secs o

  -- nobody begins with a piece, so the members and which numbers are used stay
  not_new : (q : List Event) (o : List ℕ) → is_new answers settings q (event o) ≡ false
  not_new q o = own_not_new answers settings q (event o) refl

  piece_members : (q : List Event) (o : List ℕ) → members answers settings (q ++ event o ∷ []) ≡ members answers settings q
  piece_members q o = members_kept answers settings q (event o) (not_new q o)

  piece_member : (q : List Event) (o : List ℕ) → is_member answers settings n (q ++ event o ∷ []) ≡ is_member answers settings n q
  piece_member q o = ap (list_any (nat_eq n)) (piece_members q o)

  piece_slate : (q : List Event) (o : List ℕ) → slate answers settings n (q ++ event o ∷ []) ≡ (rule answers (event o) (slate answers settings n q)).0
  piece_slate q o = slate_same answers settings q (event o)

  other_slate : (c : ℕ) (q : List Event) (o : List ℕ) → c ≢ n → slate answers settings c (q ++ event o ∷ []) ≡ slate answers settings c q
  other_slate c q o apart = slate_other answers settings c q (event o) refl apart

  piece_unused : (c : ℕ) (q : List Event) (o : List ℕ) → is_unused (slate answers settings c (q ++ event o ∷ [])).phase ≡ is_unused (slate answers settings c q).phase
  piece_unused c q o = ⊎_elim
      (λ (same : c ≡ n). rw same (unused_kept answers settings q (event o) (not_new q o)))
      (λ (apart : c ≢ n). ap (λ (s : Slate). is_unused s.phase) (other_slate c q o apart))
      (cases_eq c n)

  -- what is sent for it
  piece_gained : (q : List Event) (o : List ℕ) → gained answers settings q (event o) ≡ (if is_member answers settings n q then (rule answers (event o) (slate answers settings n q)).1 else [])
  piece_gained q o = gained_own answers settings q (event o) refl (not_new q o)

  module _ (a b : List ℕ) (cut : (s : Slate) → IsCut answers (piece_of n at secs (a ++ b)) (piece_of n at secs a) (piece_of n at secs b) s) where
    both : List Event → List Event
    both q = (q ++ event a ∷ []) ++ event b ∷ []

    cut_alike : (q : List Event) → Alike answers settings (q ++ event (a ++ b) ∷ []) (both q)
    unfolding both
    cut_alike q =
        let q1 = q ++ event a ∷ [] in
        record {
          same_members = piece_members q (a ++ b) ∙ sym (piece_members q1 b ∙ piece_members q a);
          slates = λ c there. ⊎_elim
              (λ (same : c ≡ n). rw same (piece_slate q (a ++ b) ∙ (cut (slate answers settings n q)).slate ∙ sym (piece_slate q1 b ∙ ap (λ (s : Slate). (rule answers (event b) s).0) (piece_slate q a))))
              (λ (apart : c ≢ n). other_slate c q (a ++ b) apart ∙ sym (other_slate c q1 b apart ∙ other_slate c q a apart))
              (cases_eq c n);
          unused = λ c. piece_unused c q (a ++ b) ∙ sym (piece_unused c q1 b ∙ piece_unused c q a);
          confs = conf_kept settings q (event (a ++ b)) refl ∙ sym (conf_kept settings q1 (event b) refl ∙ conf_kept settings q (event a) refl);
        }

    gained_case : (j : Bool) (q : List Event) → (if j then (rule answers (event (a ++ b)) (slate answers settings n q)).1 else [])
        ≡ (if j then (rule answers (event a) (slate answers settings n q)).1 else []) ++ (if j then (rule answers (event b) (rule answers (event a) (slate answers settings n q)).0).1 else [])
    gained_case true q = (cut (slate answers settings n q)).says
    gained_case false q = refl

    cut_gained : (q : List Event) → gained answers settings q (event (a ++ b)) ≡ gained answers settings q (event a) ++ gained answers settings (q ++ event a ∷ []) (event b)
    cut_gained q =
        let q1 = q ++ event a ∷ [] in
        let says : Bool → Slate → List Output = λ j s. if j then (rule answers (event b) s).1 else [] in
        piece_gained q (a ++ b) ∙ gained_case (is_member answers settings n q) q
        ∙ sym (ap (λ (os : List Output). os ++ gained answers settings q1 (event b)) (piece_gained q a)
        ∙ ap (λ (os : List Output). (if is_member answers settings n q then (rule answers (event a) (slate answers settings n q)).1 else []) ++ os) (piece_gained q1 b ∙ ap (λ (j : Bool). says j (slate answers settings n q1)) (piece_member q a) ∙ ap (says (is_member answers settings n q)) (piece_slate q a)))

    pub cut_out : (q r : List Event) → out answers settings (q ++ event (a ++ b) ∷ r) ≡ out answers settings (q ++ event a ∷ event b ∷ r)
    unfolding out both
    cut_out q r =
        let q1 = q ++ event a ∷ [] in
        let front = out_after answers settings [] q in
        out_split answers settings [] q (event (a ++ b) ∷ r)
        ∙ ap (λ (os : List Output). front ++ os) (ap (λ (os : List Output). os ++ out_after answers settings (q ++ event (a ++ b) ∷ []) r) (cut_gained q)
        ∙ ap (λ (os : List Output). (gained answers settings q (event a) ++ gained answers settings q1 (event b)) ++ os) (out_alike answers settings r (q ++ event (a ++ b) ∷ []) (both q) (cut_alike q))
        ∙ append_assoc (gained answers settings q (event a)) (gained answers settings q1 (event b)) (out_after answers settings (both q) r))
        ∙ sym (out_split answers settings [] q (event a ∷ event b ∷ r))
