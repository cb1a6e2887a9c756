use Rattle.std.proofs.Common.{◌≡◌, ℕ, ◌+◌, List, [], ◌∷◌, drop, Option, Some, None, MatchOption, sym, ap, ◌∙◌, Bor}
use Rattle.std.proofs.lemmas.List.{drop-drop}
use Rattle.dns_name.proofs.labels.behind.Goals as goal

skipped : (r : Option (Bor (List ℕ))) (s t l : List (List ℕ)) (i : ℕ) → MatchOption r ((s ≡ []) × (t ≡ [])) (λ x. s ≡ x.now ∷ t) → s ≡ drop i l → t ≡ drop (i + 1) l
skipped None s t l i h e = h.1 ∙ (ap (drop 1) (sym h.0 ∙ e) ∙ drop-drop 1 i l)
skipped (Some x) s t l i h e = ap (drop 1) (sym h ∙ e) ∙ drop-drop 1 i l

pub skip-preserved : goal.skip-preserved
skip-preserved c = skipped c.next.result c.skip.labels c.next.new.self c.args.labels c.skip._i c.next.ensures.steps c.skip.invariant
