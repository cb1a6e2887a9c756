use Rattle.std.proofs.Common.{◌≡◌, ℕ, List, refl, ap, sym, ◌∙◌}
use Rattle.dns_base.specs.Sections.{first_of, questions_of}
use Rattle.dns_authority.proofs.authority.sole_question.Goals as goal

pub returns-then-has_one_question : goal.returns-then-has_one_question
returns-then-has_one_question g c = rw (sym c.has_one_question.ensures, c.if-has_one_question.true) (c.first_question.ensures ∙ ap (λ (o : List ℕ). first_of (questions_of o).0) (c.deref.ensures ∙ c.message.ensures))

pub returns : goal.returns
returns g c = rw (sym c.has_one_question.ensures, c.if-has_one_question.false) refl
