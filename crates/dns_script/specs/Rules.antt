-- The service lines of a script: each is a rule with the answers to the polls of a request, in order, for one name or for all.
use Rattle.std.specs.Prelude.{ℕ, Bool, true, false, List, [], ◌∷◌, Option, Some, None, option_map, if◌then◌else◌}
use Rattle.dns_name.specs.Canonical.{same_name}
use Rattle.dns_message.specs.declared.question.Question.{Question}
use Rattle.dns_base.specs.Sections.{first_of, questions_of}
use Rattle.dns_script.specs.declared.rule.Rule.{Rule}
use Rattle.dns_script.specs.declared.rule.ScriptAnswer.{ScriptAnswer}
use Rattle.dns_script.specs.declared.rule.ScriptAnswer.TheVariants.{Error}
use Rattle.dns_service.specs.declared.service.ServiceError.TheVariants.{Refused}

-- the name that is asked for, if the first question can be read
abbrev pub name_asked : List ℕ → Option (List (List ℕ))
name_asked o = option_map (λ (q : Question). q.qname) (first_of (questions_of o).0)

-- a rule for all names fits, and one for a name if that is asked for, up to ASCII case
abbrev pub fits_name : List (List ℕ) → Option (List (List ℕ)) → Bool
fits_name n None = false
fits_name n (Some asked) = same_name asked n

abbrev pub fits_asked : Option (List (List ℕ)) → Option (List (List ℕ)) → Bool
fits_asked None asked = true
fits_asked (Some n) asked = fits_name n asked

-- the answers of the first rule that fits, and a refusal if there is none
abbrev pub answers_for : List Rule → Option (List (List ℕ)) → List ScriptAnswer
answers_for [] asked = Error Refused ∷ []
answers_for (rule ∷ rules) asked = if fits_asked rule.name asked then rule.answers else answers_for rules asked
