-- A piece cut in two changes nothing of what all are sent for some steps.
use Rattle.dns_session.specs.Serving.{Serving}
use Rattle.std.proofs.Common.{◌≡◌, ◌≢◌, ℕ, List, [], ◌∷◌, ◌++◌, Bool, true, false, refl, ap, sym, ◌∙◌, ⊎_elim, append_assoc}
use Rattle.std.specs.Prelude.{nat_eq, if◌then◌else◌}
use Rattle.std.specs.List.{list_any}
use Rattle.std.proofs.lemmas.Bool.{cases_eq}
use Rattle.dns_events.specs.declared.event.Output.{Output}
use Rattle.dns_events.specs.declared.event.Step.{Step}
use Rattle.dns_events.specs.declared.event.Step.TheVariants.{Own}
use Rattle.dns_session.specs.Pieces.{IsCut, piece_of}
use Rattle.dns_session.specs.Rule.{rule}
use Rattle.dns_session.specs.Slate.{Slate}
use Rattle.dns_core.specs.Out.{is_unused}
use Rattle.dns_core.specs.Outs.{Membership, placed_slate, placed_gain, membership, step_gained, outs, outs_after}
use Rattle.dns_core.specs.Placed.{knows}
use Rattle.dns_events.specs.declared.settings.Settings.{Settings}
use Rattle.dns_core.proofs.Placing.{knows_more}
use Rattle.dns_core.proofs.Tied.{tied}
use Rattle.dns_core.proofs.Stepping.{other_quiet, own_gain, own_slate, quiet_slate}
use Rattle.dns_core.proofs.StepsByClient.{joined, used_stays}
use Rattle.dns_core.proofs.StepsAlike.{Alike, member_used, outs_alike, outs_split, unused_after}
use Rattle.dns_core.proofs.StepsNothing.{begun_knows, membership_kept}

module _ (answers : Serving) (settings : Settings) (n at secs : ℕ) where
  abbrev step : List ℕ → Step
  step o = Own (piece_of n at secs o)

  -- a piece leaves the book and the members, what is known of the book, and which numbers are used
  piece_membership : (q : List Step) (o : List ℕ) → membership answers settings (q ++ step o ∷ []) ≡ membership answers settings q
  piece_membership q o = membership_kept answers settings q (step o) refl refl

  piece_joined : (c : ℕ) (q : List Step) (o : List ℕ) → joined answers settings c (q ++ step o ∷ []) ≡ joined answers settings c q
  piece_joined c q o = ap (λ (x : Membership). list_any (nat_eq c) x.members) (piece_membership q o)

  piece_knows : (c : ℕ) (q : List Step) (o : List ℕ) → joined answers settings c q ≡ true → knows settings c (q ++ step o ∷ []) ≡ knows settings c q
  piece_knows c q o m = knows_more settings c q (step o) ∙ begun_knows answers settings c (knows settings c q) (piece_of n at secs o) refl ((tied answers settings c q).slate.begun (member_used answers settings c q m))

  unused_case : (b : Bool) (q : List Step) (o : List ℕ) → is_unused (placed_slate answers settings n q).phase ≡ b → is_unused (placed_slate answers settings n (q ++ step o ∷ [])).phase ≡ b
  unused_case true q o u = unused_after answers settings q (piece_of n at secs o) u
  unused_case false q o u = used_stays answers settings n q (step o) u

  piece_unused : (c : ℕ) (q : List Step) (o : List ℕ) → is_unused (placed_slate answers settings c (q ++ step o ∷ [])).phase ≡ is_unused (placed_slate answers settings c q).phase
  piece_unused c q o = ⊎_elim
      (λ (same : c ≡ n). rw same (unused_case (is_unused (placed_slate answers settings n q).phase) q o refl))
      (λ (apart : c ≢ n). ap (λ (s : Slate). is_unused s.phase) (quiet_slate answers settings c q (step o) (other_quiet c (knows settings c q) (piece_of n at secs o) apart)))
      (cases_eq c n)

  piece_slate : (q : List Step) (o : List ℕ) → placed_slate answers settings n (q ++ step o ∷ []) ≡ (rule answers (piece_of n at secs o) (placed_slate answers settings n q)).0
  piece_slate q o = own_slate answers settings q (piece_of n at secs o) refl refl

  other_slate : (c : ℕ) (q : List Step) (o : List ℕ) → c ≢ n → placed_slate answers settings c (q ++ step o ∷ []) ≡ placed_slate answers settings c q
  other_slate c q o apart = quiet_slate answers settings c q (step o) (other_quiet c (knows settings c q) (piece_of n at secs o) apart)

  -- what is sent for it
  piece_gained : (q : List Step) (o : List ℕ) → step_gained answers settings q (step o) ≡ (if joined answers settings n q then (rule answers (piece_of n at secs o) (placed_slate answers settings n q)).1 else [])
  piece_gained q o =
      ap (λ b. if b then placed_gain answers settings n q (step o) else []) (piece_joined n q o)
      ∙ ap (λ os. if joined answers settings n q then os else []) (own_gain answers settings q (piece_of n at secs o) refl refl)

  module _ (a b : List ℕ) (cut : (s : Slate) → IsCut answers (piece_of n at secs (a ++ b)) (piece_of n at secs a) (piece_of n at secs b) s) where
    both : List Step → List Step
    both q = (q ++ step a ∷ []) ++ step b ∷ []

    cut_alike : (q : List Step) → Alike answers settings (q ++ step (a ++ b) ∷ []) (both q)
    unfolding both
    cut_alike q =
        let q1 = q ++ step a ∷ [] in
        let was : (c : ℕ) → joined answers settings c (q ++ step (a ++ b) ∷ []) ≡ true → joined answers settings c q ≡ true = λ c m. sym (piece_joined c q (a ++ b)) ∙ m in
        record {
          same_membership = piece_membership q (a ++ b) ∙ sym (piece_membership q1 b ∙ piece_membership q a);
          same_unused = λ c. piece_unused c q (a ++ b) ∙ sym (piece_unused c q1 b ∙ piece_unused c q a);
          same_slates = λ c m. ⊎_elim
              (λ (same : c ≡ n). rw same (piece_slate q (a ++ b) ∙ (cut (placed_slate answers settings n q)).slate ∙ sym (piece_slate q1 b ∙ ap (λ s. (rule answers (piece_of n at secs b) s).0) (piece_slate q a))))
              (λ (apart : c ≢ n). other_slate c q (a ++ b) apart ∙ sym (other_slate c q1 b apart ∙ other_slate c q a apart))
              (cases_eq c n);
          same_knows = λ c m. piece_knows c q (a ++ b) (was c m) ∙ sym (piece_knows c q1 b (piece_joined c q a ∙ was c m) ∙ piece_knows c q a (was c m));
        }

    gained_case : (j : Bool) (q : List Step) → (if j then (rule answers (piece_of n at secs (a ++ b)) (placed_slate answers settings n q)).1 else [])
        ≡ (if j then (rule answers (piece_of n at secs a) (placed_slate answers settings n q)).1 else []) ++ (if j then (rule answers (piece_of n at secs b) (rule answers (piece_of n at secs a) (placed_slate answers settings n q)).0).1 else [])
    gained_case true q = (cut (placed_slate answers settings n q)).says
    gained_case false q = refl

    cut_gained : (q : List Step) → step_gained answers settings q (step (a ++ b)) ≡ step_gained answers settings q (step a) ++ step_gained answers settings (q ++ step a ∷ []) (step b)
    cut_gained q =
        let q1 = q ++ step a ∷ [] in
        let says : Bool → Slate → List Output = λ j s. if j then (rule answers (piece_of n at secs b) s).1 else [] in
        piece_gained q (a ++ b) ∙ gained_case (joined answers settings n q) q
        ∙ sym (ap (λ os. os ++ step_gained answers settings q1 (step b)) (piece_gained q a)
        ∙ ap (λ os. (if joined answers settings n q then (rule answers (piece_of n at secs a) (placed_slate answers settings n q)).1 else []) ++ os) (piece_gained q1 b ∙ ap (λ j. says j (placed_slate answers settings n q1)) (piece_joined n q a) ∙ ap (says (joined answers settings n q)) (piece_slate q a)))

    pub cut_outs : (q r : List Step) → outs answers settings (q ++ step (a ++ b) ∷ r) ≡ outs answers settings (q ++ step a ∷ step b ∷ r)
    unfolding outs both
    cut_outs q r =
        let q1 = q ++ step a ∷ [] in
        let front = outs_after answers settings [] q in
        outs_split answers settings [] q (step (a ++ b) ∷ r)
        ∙ ap (λ os. front ++ os) (ap (λ os. os ++ outs_after answers settings (q ++ step (a ++ b) ∷ []) r) (cut_gained q)
        ∙ ap (λ os. (step_gained answers settings q (step a) ++ step_gained answers settings q1 (step b)) ++ os) (outs_alike answers settings r (q ++ step (a ++ b) ∷ []) (both q) (cut_alike q))
        ∙ append_assoc (step_gained answers settings q (step a)) (step_gained answers settings q1 (step b)) (outs_after answers settings (both q) r))
        ∙ sym (outs_split answers settings [] q (step a ∷ step b ∷ r))
