-- All clients look: one more client looks.
use Rattle.dns_session.specs.Serving.{Serving}
use Rattle.std.proofs.Common.{◌≡◌, ◌≢◌, ℕ, zero, suc, ◌<◌, ◌≤◌, add-one, List, [], ◌∷◌, ◌++◌, length, take, get_or, Option, Some, None, true, false, refl, ap, sym, ◌∙◌, subst, arith, ⊎_elim, append-nil}
use Rattle.std.specs.Prelude.{nat_eq, is_some, if◌then◌else◌}
use Rattle.std.specs.List.{flat_map, list_any}
use Rattle.std.specs.List.Sorted.{IsStrictlySortedBy}
use Rattle.std.specs.Ordering.{nat_cmp}
use Rattle.std.specs.BTreeMap.{BTreeMap, get, keys, is_at}
use Rattle.std.proofs.lemmas.Bool.{cases_eq, ne_eqb}
use Rattle.std.proofs.lemmas.Bool.Decides.{nat_tests}
use Rattle.std.proofs.lemmas.Grind.{flat_map-append}
use Rattle.std.proofs.lemmas.List.{take_all}
use Rattle.std.proofs.lemmas.List.Folds.{list_any-append, list_any_more}
use Rattle.std.proofs.lemmas.Map.Keys.{below_from_sorted, any_passes_from_place}
use Rattle.std.proofs.lemmas.Map.Made.{is_some-lookup}
use Rattle.std.proofs.lemmas.Option.{slice_get-get_or}
use Rattle.dns_service.specs.Answer.{Answer}
use Rattle.dns_events.specs.declared.look.Look.{Look}
use Rattle.dns_events.specs.declared.event.Output.{Output}
use Rattle.dns_service.specs.declared.polled.PolledRequest.{PolledRequest}
use Rattle.dns_session.specs.Slate.{Slate}
use Rattle.dns_session.specs.News.{look_effect}
use Rattle.dns_session.specs.Stands.{Stands}
use Rattle.dns_session.specs.declared.client.ClientCore.{ClientCore}
use Rattle.dns_session_map.specs.Serves.{LooksOne, StandAll}
use Rattle.dns_session_map.proofs.Keys.{has_key}

in_same : (ks : List ℕ) (n : ℕ) → list_any (nat_eq n) (ks ++ n ∷ []) ≡ true
in_same ks n = grind (arith, nat_tests, list_any-append (nat_eq n) ks (n ∷ []))

in_other : (ks : List ℕ) (c n : ℕ) → c ≢ n → list_any (nat_eq c) (ks ++ n ∷ []) ≡ list_any (nat_eq c) ks
in_other ks c n ne = grind (arith, nat_tests, list_any-append (nat_eq c) ks (n ∷ []))

new_up_to : (ns : List ℕ) (i : ℕ) → IsStrictlySortedBy nat_cmp ns → i < length ns → (j : ℕ) → j ≤ i → list_any (nat_eq (get_or ns i 0)) (take j ns) ≡ false
new_up_to ns i rising lt zero le = refl
new_up_to ns i rising lt (suc j) le =
    let below = below_from_sorted ns j i 0 rising (omega arith) lt in
    let before = new_up_to ns i rising lt j (omega arith) in
    let here : nat_eq (get_or ns i 0) (get_or ns j 0) ≡ false = ne_eqb (get_or ns i 0) (get_or ns j 0) (λ (e : get_or ns i 0 ≡ get_or ns j 0). omega arith) in
    rw (← add-one) (list_any_more (nat_eq (get_or ns i 0)) ns j 0 (omega arith) ∙ rw (before, here) refl)

-- no number stands twice
pub is_new_number : (ns : List ℕ) (i : ℕ) → IsStrictlySortedBy nat_cmp ns → i < length ns → list_any (nat_eq (get_or ns i 0)) (take i ns) ≡ false
is_new_number ns i rising lt = new_up_to ns i rising lt i (omega arith)

is_at_same : (n : ℕ) → is_at (nat_cmp n) n ≡ true
is_at_same n = grind (arith, nat_tests)

-- of a key something is kept
pub is_there : {X : Type 0} (m : BTreeMap ℕ X) (ns : List ℕ) (i : ℕ) → keys m ≡ ns → i < length ns → is_some (get nat_cmp m (get_or ns i 0)) ≡ true
is_there m ns i e lt =
    is_some-lookup (is_at (nat_cmp (get_or ns i 0))) m.entries
    ∙ rw e (any_passes_from_place (is_at (nat_cmp (get_or ns i 0))) ns i (get_or ns i 0) (slice_get-get_or ns i 0 lt) (is_at_same (get_or ns i 0)))

-- those of ks have looked, and heard its version
abbrev pub mixed : Serving → Look → List ℕ → (ℕ → Slate) → (ℕ → ℕ) → ℕ → Slate
mixed answers look ks slates versions c = if list_any (nat_eq c) ks then (look_effect answers (versions c) look (slates c)).0 else slates c

abbrev pub mixed_versions : Look → List ℕ → (ℕ → ℕ) → ℕ → ℕ
mixed_versions look ks versions c = if list_any (nat_eq c) ks then look.version else versions c

module _ {W R F : Type 0} (answer : PolledRequest F R → ℕ → Answer) (answers : Serving) where
  -- what a client's look says and leaves, at a slate that its core stands for
  looked : (o w : Option (ClientCore W R F)) (look : Look) (more : List Output) (s : Slate) (v : ℕ) → is_some o ≡ true → LooksOne answer answers o look more w
      → ((core : ClientCore W R F) → o ≡ Some core → Stands answer answers core s × (core.version ≡ v))
      → (more ≡ (look_effect answers v look s).1) × ((core : ClientCore W R F) → w ≡ Some core → Stands answer answers core (look_effect answers v look s).0 × (core.version ≡ look.version))
  looked None w look more s v there k h = cc
  looked (Some core) None look more s v there k h = absurd k
  looked (Some core) (Some new) look more s v there k h =
      let st = h core refl in
      let P : ℕ → Type 0 = λ x. (more ≡ (look_effect answers x look s).1) × Stands answer answers new (look_effect answers x look s).0 in
      let f = subst P st.1 (k.0 s st.0) in
      (f.0, λ (x : ClientCore W R F) (is : Some new ≡ Some x). let i : new ≡ x = cc in subst (λ (y : ClientCore W R F). Stands answer answers y (look_effect answers v look s).0 × (y.version ≡ look.version)) i (f.1, k.1))

  pub one_more : (old new : BTreeMap ℕ (ClientCore W R F)) (ks : List ℕ) (n : ℕ) (look : Look) (outs more : List Output) (slates : ℕ → Slate) (versions : ℕ → ℕ)
      → list_any (nat_eq n) ks ≡ false
      → is_some (get nat_cmp old n) ≡ true
      → LooksOne answer answers (get nat_cmp old n) look more (get nat_cmp new n)
      → ((c : ℕ) → c ≢ n → get nat_cmp new c ≡ get nat_cmp old c)
      → outs ≡ flat_map (λ c. (look_effect answers (versions c) look (slates c)).1) ks
      → StandAll answer answers old (mixed answers look ks slates versions) (mixed_versions look ks versions)
      → (outs ++ more ≡ flat_map (λ c. (look_effect answers (versions c) look (slates c)).1) (ks ++ n ∷ [])) × StandAll answer answers new (mixed answers look (ks ++ n ∷ []) slates versions) (mixed_versions look (ks ++ n ∷ []) versions)
  one_more old new ks n look outs more slates versions fresh there k others said all =
      let f = looked (get nat_cmp old n) (get nat_cmp new n) look more (slates n) (versions n) there k (λ core is. rw fresh at (all n core is)) in (
        rw (flat_map-append (λ c. (look_effect answers (versions c) look (slates c)).1) ks (n ∷ []), said, f.0) (ap (λ ys. flat_map (λ c. (look_effect answers (versions c) look (slates c)).1) ks ++ ys) (sym (append-nil (look_effect answers (versions n) look (slates n)).1))),
        λ c core is. ⊎_elim
            (λ (same : c ≡ n). rw (same, in_same ks n) (f.1 core (rw same at is)))
            (λ (apart : c ≢ n). rw (in_other ks c n apart) (all c core (sym (others c apart) ∙ is)))
            (cases_eq c n),
      )

  -- all of them looked
  pub all_done : (m : BTreeMap ℕ (ClientCore W R F)) (ns ks : List ℕ) (i : ℕ) (look : Look) (outs : List Output) (slates : ℕ → Slate) (versions : ℕ → ℕ) → keys m ≡ ns → ns ≡ ks → length ns ≤ i
      → (outs ≡ flat_map (λ c. (look_effect answers (versions c) look (slates c)).1) (take i ns)) × StandAll answer answers m (mixed answers look (take i ns) slates versions) (mixed_versions look (take i ns) versions)
      → (outs ≡ flat_map (λ c. (look_effect answers (versions c) look (slates c)).1) ks) × StandAll answer answers m (λ c. (look_effect answers (versions c) look (slates c)).0) (λ c. look.version)
  all_done m ns ks i look outs slates versions same is le so = (
    so.0 ∙ ap (flat_map (λ (c : ℕ). (look_effect answers (versions c) look (slates c)).1)) (take_all i ns le ∙ is),
    λ c core kept.
        let t : list_any (nat_eq c) (take i ns) ≡ true = ap (list_any (nat_eq c)) (take_all i ns le ∙ sym same) ∙ sym (has_key m c) ∙ ap is_some kept in
        rw t at (so.1 c core kept),
  )
