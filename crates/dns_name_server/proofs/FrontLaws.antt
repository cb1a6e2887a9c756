-- The first labels of a name, as octets.
use Rattle.std.proofs.Common.{◌≡◌, ℕ, zero, suc, ◌+◌, ◌-◌, ◌≤◌, Bool, false, List, [], ◌∷◌, ◌++◌, length, take, drop, Ok, Err, refl, ap, sym, ◌∙◌, arith, append_assoc, length-append}
use Rattle.std.specs.Prelude.{nat_lt, if◌then◌else◌}
use Rattle.std.proofs.lemmas.Bool.Decides.{nat_tests}
use Rattle.std.proofs.lemmas.List.{take_at}
use Rattle.dns_name.specs.Labels.{AreLabels, IsName, spell}
use Rattle.dns_name.specs.Names.{read_whole, uncompressed}
use Rattle.dns_name.specs.declared.error.ParseError.{ParseError}
use Rattle.dns_name.specs.declared.error.ParseError.TheVariants.{Form}
use Rattle.dns_name.specs.declared.error.FormReason.TheVariants.{Trailing}
use Rattle.dns_name.proofs.Spelt.{spelt_alone}

-- each label after its length
marks : List (List ℕ) → List ℕ
marks [] = []
marks (l ∷ ls) = length l ∷ (l ++ marks ls)

spell_marks : (ls : List (List ℕ)) → spell ls ≡ marks ls ++ 0 ∷ []
unfolding marks
spell_marks [] = refl
spell_marks (l ∷ ls) = ap (λ (o : List ℕ). length l ∷ o) (ap (λ (o : List ℕ). l ++ o) (spell_marks ls) ∙ sym (append_assoc l (marks ls) (0 ∷ [])))

spell_split : (k : ℕ) (ls : List (List ℕ)) → spell ls ≡ marks (take k ls) ++ spell (drop k ls)
unfolding marks
spell_split zero ls = refl
spell_split (suc k) [] = refl
spell_split (suc k) (l ∷ ls) = ap (λ (o : List ℕ). length l ∷ o) (ap (λ (o : List ℕ). l ++ o) (spell_split k ls) ∙ sym (append_assoc l (marks (take k ls)) (spell (drop k ls))))

labels_first : (k : ℕ) (ls : List (List ℕ)) → AreLabels ls → AreLabels (take k ls)
labels_first zero ls h = tt
labels_first (suc k) [] h = tt
labels_first (suc k) (l ∷ ls) h = (h.0, h.1, labels_first k ls h.2)

some_spelt : (ls : List (List ℕ)) → 1 ≤ length (spell ls)
some_spelt [] = omega arith
some_spelt (l ∷ ls) = omega arith

-- a name that is written reads as itself
not_less : (n : ℕ) → nat_lt n n ≡ false
not_less n = grind (arith, nat_tests)

pub reads : (ls : List (List ℕ)) → IsName ls → uncompressed (spell ls) ≡ Ok ls
reads ls n =
    let m = length (spell ls) in
    ap (read_whole (spell ls)) (spelt_alone ls n) ∙ ap (λ (b : Bool). if b then Err (Form Trailing) else Ok ls) (not_less m)

module _ (k : ℕ) (name : List (List ℕ)) (o b : List ℕ) (e : o ≡ spell name) (f : b ≡ spell (drop k name)) where
  split : length o ≡ length (marks (take k name)) + length b
  split = omega (arith, ap length e, ap length f, ap length (spell_split k name), length-append (marks (take k name)) (spell (drop k name)))

  pub front_within : length b ≤ length o
  front_within = omega (arith, split)

  pub front_octets : take (length o - length b) o ++ 0 ∷ [] ≡ spell (take k name)
  front_octets =
      let n : length (marks (take k name)) ≡ length o - length b = omega (arith, split) in
      let t : take (length o - length b) o ≡ marks (take k name) = ap (take (length o - length b)) (e ∙ spell_split k name) ∙ take_at (marks (take k name)) (spell (drop k name)) (length o - length b) n in
      ap (λ (x : List ℕ). x ++ 0 ∷ []) t ∙ sym (spell_marks (take k name))

  first_short : length (spell (take k name)) ≤ length (spell name)
  first_short =
      omega (arith, ap length (spell_split k name), length-append (marks (take k name)) (spell (drop k name)), some_spelt (drop k name), ap length (spell_marks (take k name)), length-append (marks (take k name)) (0 ∷ []))

  first_named : IsName name → IsName (take k name)
  first_named h = record { labels = labels_first k name h.labels; room = omega (arith, h.room, first_short) }

  pub front_reads : (front : List ℕ) → IsName name → front ≡ take (length o - length b) o ++ 0 ∷ [] → uncompressed front ≡ Ok (take k name)
  front_reads front h g = ap uncompressed (g ∙ front_octets) ∙ reads (take k name) (first_named h)

  pub front_named : (front : List ℕ) (n : List (List ℕ)) → IsName name → front ≡ take (length o - length b) o ++ 0 ∷ [] → Ok n ≡ uncompressed front → n ≡ take k name
  front_named front n h g r = let s : Ok n ≡ Ok (take k name) = r ∙ front_reads front h g in cc

  pub front_never : (front : List ℕ) (x : ParseError) → IsName name → front ≡ take (length o - length b) o ++ 0 ∷ [] → Err x ≡ uncompressed front → ⊥
  front_never front x h g r = let s : Err x ≡ Ok (take k name) = r ∙ front_reads front h g in absurd (cc)

-- the octets of a name read as that name
pub spelt_named : (ls n : List (List ℕ)) (o : List ℕ) → IsName ls → o ≡ spell ls → Ok n ≡ uncompressed o → n ≡ ls
spelt_named ls n o h e r = let s : Ok n ≡ Ok ls = r ∙ (ap uncompressed e ∙ reads ls h) in cc

pub spelt_never : (ls : List (List ℕ)) (o : List ℕ) (x : ParseError) → IsName ls → o ≡ spell ls → Err x ≡ uncompressed o → ⊥
spelt_never ls o x h e r = let s : Err x ≡ Ok ls = r ∙ (ap uncompressed e ∙ reads ls h) in absurd (cc)
