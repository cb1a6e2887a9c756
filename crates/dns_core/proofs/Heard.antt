-- What is sent for one event more: the gains of those that hear it.
use Rattle.dns_session.specs.Serving.{Serving}
use Rattle.std.proofs.Common.{◌≡◌, ◌≢◌, ℕ, List, [], ◌∷◌, ◌++◌, Bool, true, false, cond, refl, ap, sym, ◌∙◌, ⊎_elim}
use Rattle.std.proofs.lemmas.List.{append-nil}
use Rattle.std.specs.Prelude.{filter, nat_eq, if◌then◌else◌, not, ◌&&◌, ◌||◌}
use Rattle.std.specs.List.{list_any, flat_map}
use Rattle.std.specs.List.Sorted.{IsStrictlySortedBy}
use Rattle.std.specs.Ordering.{nat_cmp}
use Rattle.std.proofs.lemmas.Bool.{eq-eqb, ne_eqb, cases_eq}
use Rattle.std.proofs.lemmas.Map.Keys.{sorted_head, sorted_tail}
use Rattle.std.proofs.Math.Bool.{or-true}
use Rattle.dns_events.specs.declared.event.Event.{Event}
use Rattle.dns_events.specs.declared.event.Output.{Output}
use Rattle.dns_events.specs.declared.event.Output.TheVariants.{TurnedAway}
use Rattle.dns_core.specs.Own.{is_wide, concerns}
use Rattle.dns_core.specs.Sent.{conf}
use Rattle.dns_core.specs.Out.{gain, heard, is_new, is_turned_away, joins, members, turned_away, gained}
use Rattle.dns_events.specs.declared.settings.Settings.{Settings}
use Rattle.dns_core.proofs.Counted.{filter_same, put_there}
use Rattle.dns_session_map.proofs.Keys.{less_absent}
use Rattle.dns_core.proofs.Gained.{concerns_own, members_kept, members_joined, members_away, none_away}
use Rattle.dns_core.proofs.Rising.{rises, new_absent}

none_case : (c m : ℕ) (ms : List ℕ) → (list_any (nat_eq c) ms ≡ false → filter (nat_eq c) ms ≡ []) → (b : Bool) → (b || list_any (nat_eq c) ms) ≡ false → cond b (m ∷ filter (nat_eq c) ms) (filter (nat_eq c) ms) ≡ []
none_case c m ms more true h = cc
none_case c m ms more false h = more h

filter_none : (c : ℕ) (ms : List ℕ) → list_any (nat_eq c) ms ≡ false → filter (nat_eq c) ms ≡ []
filter_none c [] h = refl
filter_none c (m ∷ ms) h = none_case c m ms (filter_none c ms) (nat_eq c m) h

-- a number passes once in a rising list, if it is there
filter_one : (c : ℕ) (ms : List ℕ) → IsStrictlySortedBy nat_cmp ms → filter (nat_eq c) ms ≡ (if list_any (nat_eq c) ms then c ∷ [] else [])
filter_one c [] so = refl
filter_one c (m ∷ ms) so =
    ⊎_elim
    (λ (same : m ≡ c).
    let absent : list_any (nat_eq c) ms ≡ false = ap (λ (x : ℕ). list_any (nat_eq x) ms) (sym same) ∙ less_absent m ms (sorted_head nat_cmp m ms so) in
    let here : nat_eq c m ≡ true = eq-eqb c m (sym same) in
    rw (here, filter_none c ms absent) (ap (λ (x : ℕ). x ∷ []) same))
    (λ (apart : m ≢ c).
    let ne : nat_eq c m ≡ false = ne_eqb c m (λ (e : c ≡ m). apart (sym e)) in
    rw ne (filter_one c ms (sorted_tail nat_cmp m ms so)))
    (cases_eq m c)

flat_one : (g : ℕ → List Output) (c : ℕ) (b : Bool) → flat_map g (if b then c ∷ [] else []) ≡ (if b then g c else [])
flat_one g c true = append-nil (g c)
flat_one g c false = refl

same_case : (f g : ℕ → List Output) (p : ℕ → Bool) (m : ℕ) (ms : List ℕ) → (p m ≡ true → f m ≡ g m) → flat_map f (filter p ms) ≡ flat_map g (filter p ms) → (b : Bool) → p m ≡ b → flat_map f (cond b (m ∷ filter p ms) (filter p ms)) ≡ flat_map g (cond b (m ∷ filter p ms) (filter p ms))
same_case f g p m ms here rest true passes = rw (here passes, rest) refl
same_case f g p m ms here rest false passes = rest

-- those that pass are told alike
pub flat_same : (f g : ℕ → List Output) (p : ℕ → Bool) (ms : List ℕ) → ((c : ℕ) → p c ≡ true → list_any (nat_eq c) ms ≡ true → f c ≡ g c) → flat_map f (filter p ms) ≡ flat_map g (filter p ms)
flat_same f g p [] h = refl
flat_same f g p (m ∷ ms) h = same_case f g p m ms (λ passes. h m passes (rw (eq-eqb m m refl) refl)) (flat_same f g p ms (λ c passes there. h c passes (rw there (or-true (nat_eq c m))))) (p m) refl

flat_nil : (ms : List ℕ) → flat_map {X = ℕ} {A = Output} (λ c. []) ms ≡ []
flat_nil [] = refl
flat_nil (m ∷ ms) = flat_nil ms

-- nothing is told if nobody that passes is told anything
pub flat_none : (f : ℕ → List Output) (p : ℕ → Bool) (ms : List ℕ) → ((c : ℕ) → p c ≡ true → list_any (nat_eq c) ms ≡ true → f c ≡ []) → flat_map f (filter p ms) ≡ []
flat_none f p ms h = flat_same f (λ c. []) p ms h ∙ flat_nil (filter p ms)

module _ (answers : Serving) (settings : Settings) where
  -- an event of one client is heard by that one alone
  pub heard_own : (q : List Event) (e : Event) → is_wide e.kind ≡ false → heard answers settings q e ≡ (if list_any (nat_eq e.client) (members answers settings (q ++ e ∷ [])) then e.client ∷ [] else [])
  heard_own q e w =
      let ms = members answers settings (q ++ e ∷ []) in
      filter_same (λ c. concerns c e) (nat_eq e.client) ms (λ c there. concerns_own c e w) ∙ filter_one e.client ms (rises answers settings (q ++ e ∷ []))

  gains_own : (q : List Event) (e : Event) → is_wide e.kind ≡ false → flat_map (λ c. gain answers settings c q e) (heard answers settings q e) ≡ (if list_any (nat_eq e.client) (members answers settings (q ++ e ∷ [])) then gain answers settings e.client q e else [])
  gains_own q e w = ap (flat_map (λ c. gain answers settings c q e)) (heard_own q e w) ∙ flat_one (λ c. gain answers settings c q e) e.client (list_any (nat_eq e.client) (members answers settings (q ++ e ∷ [])))

  -- one by which nobody begins
  pub gained_own : (q : List Event) (e : Event) → is_wide e.kind ≡ false → is_new answers settings q e ≡ false → gained answers settings q e ≡ (if list_any (nat_eq e.client) (members answers settings q) then gain answers settings e.client q e else [])
  gained_own q e w n =
      ap (λ (os : List Output). os ++ turned_away answers settings q e) (gains_own q e w)
      ∙ (rw (none_away answers settings q e n, members_kept answers settings q e n) (append-nil (if list_any (nat_eq e.client) (members answers settings q) then gain answers settings e.client q e else [])))

  -- one by which its client joins
  pub gained_joined : (q : List Event) (e : Event) → is_wide e.kind ≡ false → joins answers settings q (members answers settings q) e ≡ true → gained answers settings q e ≡ gain answers settings e.client q e
  gained_joined q e w j =
      ap (λ (os : List Output). os ++ turned_away answers settings q e) (gains_own q e w)
      ∙ joined_case (is_new answers settings q e) (rw (members_joined answers settings q e j, put_there e.client (members answers settings q)) refl)
    where
      joined_case : (b : Bool) → list_any (nat_eq e.client) (members answers settings (q ++ e ∷ [])) ≡ true
          → (if list_any (nat_eq e.client) (members answers settings (q ++ e ∷ [])) then gain answers settings e.client q e else []) ++ (if b && not (joins answers settings q (members answers settings q) e) then TurnedAway e.client (conf settings q).stream.accept_connections_at_max ∷ [] else []) ≡ gain answers settings e.client q e
      joined_case true there = rw (there, j) (append-nil (gain answers settings e.client q e))
      joined_case false there = rw there (append-nil (gain answers settings e.client q e))

  -- and one by which it is turned away
  pub gained_away : (q : List Event) (e : Event) → is_wide e.kind ≡ false → is_new answers settings q e ≡ true → joins answers settings q (members answers settings q) e ≡ false → gained answers settings q e ≡ TurnedAway e.client (conf settings q).stream.accept_connections_at_max ∷ []
  gained_away q e w n j =
      let absent = ap (list_any (nat_eq e.client)) (members_away answers settings q e j) ∙ new_absent answers settings q e n in
      let silent = gains_own q e w ∙ ap (λ (b : Bool). if b then gain answers settings e.client q e else []) absent in
      let away : is_turned_away answers settings q e ≡ true = ap (λ (b : Bool). b && not (joins answers settings q (members answers settings q) e)) n ∙ ap not j in
      ap (λ (os : List Output). os ++ turned_away answers settings q e) silent
      ∙ ap (λ (b : Bool). if b then TurnedAway e.client (conf settings q).stream.accept_connections_at_max ∷ [] else []) away
