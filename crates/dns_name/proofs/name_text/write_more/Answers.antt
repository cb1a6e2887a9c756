use Rattle.std.proofs.Common.{◌≡◌, ◌++◌, ◌∷◌, List, ℕ, rules, ap, sym, ◌∙◌, append_assoc, append-nil, subst}
use Rattle.std.specs.Fmt.{HasWritten}
use Rattle.std.proofs.Output.{has_written_append}
use Rattle.dns_name.specs.NameText.{label_text, more_text}
use Rattle.dns_name.proofs.name_text.write_more.Goals as goal

-- one label more
further : (bs l : List ℕ) (ls rest init : List (List ℕ)) → ls ≡ l ∷ rest → bs ++ more_text ls ≡ more_text init → (bs ++ (46 ∷ label_text l)) ++ more_text rest ≡ more_text init
further bs l ls rest init e h = append_assoc bs (46 ∷ label_text l) (more_text rest) ∙ (ap (λ x. bs ++ more_text x) (sym e) ∙ h)

pub labels-preserved : goal.labels-preserved
labels-preserved g c = λ p.
    let i = c.labels.invariant p in (
      i.0 ++ (46 ∷ label_text c.in-Some.label.now),
      has_written_append _ _ _ _ _ _ i.1 (search rules),
      further i.0 c.in-Some.label.now c.labels.labels c.next.new.self c.args.labels c.in-Some.ensures.steps i.2,
    )

pub returns : goal.returns
returns g c = λ p q.
    let i = c.labels.invariant p in
    let e : i.0 ≡ more_text c.args.labels = sym (append-nil i.0) ∙ (ap (λ (x : List (List ℕ)). i.0 ++ more_text x) (sym c.in_default.ensures.steps.0) ∙ i.2) in
    subst (λ (t : List ℕ). HasWritten g.W.Write.write_str_gives c.args.f.now t c.labels.f) e i.1
