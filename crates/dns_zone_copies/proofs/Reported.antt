-- What is said of copies, one by one.
use Rattle.std.proofs.Common.{◌≡◌, ◌∙◌, ◌+◌, ◌<◌, ◌≤◌, ℕ, List, [], ◌∷◌, ◌++◌, ap, append-nil, append_assoc, drop, get_or, length, refl, subst, sym}
use Rattle.std.proofs.lemmas.List.{drop_all, drop_more}
use Rattle.dns_zone_copies.specs.Reporting.{AddsLine, Reports, line_text}
use Rattle.dns_zone_copies.specs.Secondaries.{SecondaryState}

module _ (ss : List SecondaryState) where
  -- the lines of those that are left make the lines of all with the text that is there
  abbrev pub Says : List SecondaryState → List ℕ → Type 0
  Says left text = (rest : List ℕ) → Reports left rest → Reports ss (text ++ rest)

  pub says_more : (i : ℕ) (s : SecondaryState) (text more : List ℕ) → i < length ss → s ≡ get_or ss i s → AddsLine s text more → Says (drop i ss) text → Says (drop (i + 1) ss) more
  says_more i s text more lt is line says = λ rest h.
      let first : List ℕ = line_text s line.primary line.asked in
      let behind : List SecondaryState = drop (i + 1) ss in
      let at : drop i ss ≡ s ∷ behind = drop_more ss i s lt ∙ ap (λ (x : SecondaryState). x ∷ behind) (sym is) in
      let one : Reports (s ∷ behind) (first ++ rest) = (line.primary, line.asked, rest, refl, h) in
      let all : Reports (drop i ss) (first ++ rest) = subst (λ (xs : List SecondaryState). Reports xs (first ++ rest)) (sym at) one in
      let same : text ++ (first ++ rest) ≡ more ++ rest = sym (ap (λ (t : List ℕ). t ++ rest) line.added ∙ append_assoc text first rest) in
      subst (λ (t : List ℕ). Reports ss t) same (says (first ++ rest) all)

  pub says_all : (i : ℕ) (text : List ℕ) → length ss ≤ i → Says (drop i ss) text → Reports ss text
  says_all i text h says =
      let none : Reports [] [] = refl in
      subst (λ (t : List ℕ). Reports ss t) (append-nil text) (says [] (subst (λ (xs : List SecondaryState). Reports xs []) (sym (drop_all i ss h)) none))
