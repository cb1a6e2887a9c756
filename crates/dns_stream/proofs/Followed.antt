-- The answers of a middleware stream after a poll of its future.
use Rattle.std.proofs.Common.{◌≡◌, ℕ, suc, Result, Ok, Err, IfOk, ap, sym, subst, ◌∙◌}
use Rattle.std.specs.Prelude.{OnOk}
use Rattle.dns_service.specs.declared.service.Polled.{Polled}
use Rattle.dns_service.specs.declared.service.Polled.TheVariants.{Pending, Ready}
use Rattle.dns_service.specs.Answer.{Answer, IfPending, IfReady}
use Rattle.dns_stream.specs.Streams.{Follows, middleware_answer}
use Rattle.dns_stream.specs.declared.middleware.MiddlewareStream.{MiddlewareStream}
use Rattle.dns_stream.specs.declared.middleware.MiddlewareStream.TheVariants.{IdentityFuture, IdentityStream}

module _ {E F R M O : Type 0} (f : F → ℕ → Answer) (r : R → ℕ → Answer) (m : M → ℕ → Answer) (o : O → ℕ → Answer) (old new : F) (after : MiddlewareStream F R M O) where
  pub followed_now : (polled : Result (Polled (R × Answer)) E) (result : Result Answer E) →
      IfOk polled (IfPending (f old 0 ≡ Pending × ((k : ℕ) → f new k ≡ f old (suc k)))) → IfOk polled (IfReady (λ x. (x.1 ≡ f old 0) × ((k : ℕ) → r x.0 k ≡ f old (suc k)))) →
      Follows polled (IdentityFuture new) after result → IfOk result (λ p. p ≡ f old 0)
  followed_now (Ok Pending) result h g i = subst (λ (x : Result Answer E). IfOk x (λ p. p ≡ f old 0)) (sym i.0) (sym h.0)
  followed_now (Ok (Ready p)) result h g i = subst (λ (x : Result Answer E). IfOk x (λ p. p ≡ f old 0)) (sym i.0) g.0
  followed_now (Err e) result h g i = subst (λ (x : Result Answer E). IfOk x (λ p. p ≡ f old 0)) (sym i) tt

  pub followed_later : (polled : Result (Polled (R × Answer)) E) (result : Result Answer E) →
      IfOk polled (IfPending (f old 0 ≡ Pending × ((k : ℕ) → f new k ≡ f old (suc k)))) → IfOk polled (IfReady (λ x. (x.1 ≡ f old 0) × ((k : ℕ) → r x.0 k ≡ f old (suc k)))) →
      Follows polled (IdentityFuture new) after result → OnOk result ((k : ℕ) → middleware_answer f r m o after k ≡ f old (suc k))
  followed_later (Ok Pending) result h g i = subst (λ (x : Result Answer E). OnOk x ((k : ℕ) → middleware_answer f r m o after k ≡ f old (suc k))) (sym i.0) (λ k. ap (λ s. middleware_answer f r m o s k) i.1 ∙ h.1 k)
  followed_later (Ok (Ready p)) result h g i = subst (λ (x : Result Answer E). OnOk x ((k : ℕ) → middleware_answer f r m o after k ≡ f old (suc k))) (sym i.0) (λ k. ap (λ s. middleware_answer f r m o s k) i.1 ∙ g.1 k)
  followed_later (Err e) result h g i = subst (λ (x : Result Answer E). OnOk x ((k : ℕ) → middleware_answer f r m o after k ≡ f old (suc k))) (sym i) tt
