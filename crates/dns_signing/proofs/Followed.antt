-- Signed answers are those of the answers that they sign, one by one.
use Rattle.std.proofs.Common.{◌≡◌, ℕ, zero, suc, true, None, refl, ap, subst, ◌∙◌}
use Rattle.std.specs.Prelude.{IfOk, Result}
use Rattle.dns_service.specs.Answer.{Answer}
use Rattle.dns_service.specs.declared.service.Polled.TheVariants.{Ready}
use Rattle.dns_signing.specs.SignedReplies.{SignerParts, behind_answer, signed_answer, signed_answers}

pub same_answers : (a b : ℕ → Answer) (p : SignerParts) (k : ℕ) → ((n : ℕ) → a n ≡ b n) → signed_answers a p k ≡ signed_answers b p k
same_answers a b p zero h = ap (signed_answer p) (h 0)
same_answers a b p (suc k) h = ap (λ (q : SignerParts). signed_answers (λ n. a (suc n)) q k) (ap (behind_answer p) (h 0)) ∙ same_answers (λ n. a (suc n)) (λ n. b (suc n)) (behind_answer p (b 0)) k (λ n. h (suc n))

-- after an error there is no answer
behind_ended : (p : SignerParts) (x : Answer) → p.ended ≡ true → behind_answer p x ≡ p
behind_ended p x e = rw e refl

pub none_left : (a : ℕ → Answer) (p : SignerParts) (k : ℕ) → p.ended ≡ true → signed_answers a p k ≡ Ready None
none_left a p zero e = rw e refl
none_left a p (suc k) e = ap (λ (q : SignerParts). signed_answers (λ n. a (suc n)) q k) (behind_ended p (a 0) e) ∙ none_left (λ n. a (suc n)) p k e

-- the answers that are left after a poll
pub answers_left : (a b : ℕ → Answer) (p q : SignerParts) (k : ℕ) → ((n : ℕ) → b n ≡ a (suc n)) → q ≡ behind_answer p (a 0) → signed_answers b q k ≡ signed_answers a p (suc k)
answers_left a b p q k h e = same_answers b (λ n. a (suc n)) q k h ∙ ap (λ (x : SignerParts). signed_answers (λ n. a (suc n)) x k) e

-- answers of a stream that is made of a future's
pub carried : (w a b : ℕ → Answer) (p q : SignerParts) → w ≡ signed_answers a p → ((n : ℕ) → a n ≡ b n) → p ≡ q → (k : ℕ) → w k ≡ signed_answers b q k
carried w a b p q e h g k = ap (λ (f : ℕ → Answer). f k) e ∙ (same_answers a b p k h ∙ ap (λ (x : SignerParts). signed_answers b x k) g)

-- what a stream answers, said otherwise
pub said_by : {A E : Type 0} (result : Result A E) (f : A → ℕ → Answer) (a b : ℕ → Answer) → a ≡ b → IfOk result (λ x. (k : ℕ) → f x k ≡ a k) → IfOk result (λ x. (k : ℕ) → f x k ≡ b k)
said_by {A} result f a b e h = subst (λ (y : ℕ → Answer). IfOk result (λ (x : A). (k : ℕ) → f x k ≡ y k)) e h
