-- The answer of a number among those of a rule.
use Rattle.std.proofs.Common.{◌≡◌, ℕ, zero, suc, List, [], ◌∷◌, refl, ap, ◌∙◌}
use Rattle.std.specs.Prelude.{Option, Some, None}
use Rattle.std.specs.List.{slice_get}
use Rattle.dns_service.specs.Answer.{Answer}
use Rattle.dns_service.specs.declared.service.Polled.TheVariants.{Ready}
use Rattle.dns_script.specs.Played.{given, played_from}
use Rattle.dns_script.specs.declared.rule.ScriptAnswer.{ScriptAnswer}

-- what is given for an answer that is there, and else the end
given_or_end : List ℕ → Option ScriptAnswer → Answer
given_or_end o None = Ready None
given_or_end o (Some a) = given o a

by_number : (o : List ℕ) (answers : List ScriptAnswer) (k : ℕ) → played_from o answers k ≡ given_or_end o (slice_get answers k)
unfolding given_or_end
by_number o [] k = refl
by_number o (a ∷ more) zero = refl
by_number o (a ∷ more) (suc k) = by_number o more k

pub answered_at : (o : List ℕ) (answers : List ScriptAnswer) (k : ℕ) (a : ScriptAnswer) → slice_get answers k ≡ Some a → played_from o answers k ≡ given o a
unfolding given_or_end
answered_at o answers k a e = by_number o answers k ∙ ap (given_or_end o) e

pub none_left : (o : List ℕ) (answers : List ScriptAnswer) (k : ℕ) → slice_get answers k ≡ None → played_from o answers k ≡ Ready None
unfolding given_or_end
none_left o answers k e = by_number o answers k ∙ ap (given_or_end o) e
