use Rattle.std.proofs.Common.{◌≡◌, ℕ, ◌≤◌, List, [], ◌∷◌, length, take, Option, Some, None, Result, Ok, Err, IfOk, arith, sym, length-take-le}
use Rattle.dns_message.specs.Plain.{QuestionsStand}
use Rattle.dns_limited_sock.specs.Emptied.{IsEmptied, with_tc}
use Rattle.dns_limited_sock.proofs.truncation.emptied.Goals as goal

-- octets with a header have a form with TC
is_long : (o : List ℕ) → 12 ≤ length o → with_tc o ≡ None → ⊥
is_long [] long none = absurd (omega (arith, long))
is_long (a ∷ []) long none = absurd (omega (arith, long))
is_long (a ∷ b ∷ []) long none = absurd (omega (arith, long))
is_long (a ∷ b ∷ c ∷ []) long none = absurd (omega (arith, long))
is_long (a ∷ b ∷ c ∷ d ∷ []) long none = absurd (omega (arith, long))
is_long (a ∷ b ∷ c ∷ d ∷ e ∷ []) long none = absurd (omega (arith, long))
is_long (a ∷ b ∷ c ∷ d ∷ e ∷ f ∷ []) long none = absurd (omega (arith, long))
is_long (a ∷ b ∷ c ∷ d ∷ e ∷ f ∷ g ∷ []) long none = absurd (omega (arith, long))
is_long (a ∷ b ∷ c ∷ d ∷ e ∷ f ∷ g ∷ h ∷ []) long none = absurd (omega (arith, long))
is_long (a ∷ b ∷ c ∷ d ∷ e ∷ f ∷ g ∷ h ∷ i ∷ []) long none = absurd (omega (arith, long))
is_long (a ∷ b ∷ c ∷ d ∷ e ∷ f ∷ g ∷ h ∷ i ∷ j ∷ []) long none = absurd (omega (arith, long))
is_long (a ∷ b ∷ c ∷ d ∷ e ∷ f ∷ g ∷ h ∷ i ∷ j ∷ k ∷ []) long none = absurd (omega (arith, long))
is_long (a ∷ b ∷ c ∷ d ∷ e ∷ f ∷ g ∷ h ∷ i ∷ j ∷ k ∷ l ∷ o) long none = cc

emptied_of : (o : List ℕ) (end : ℕ) (short : Option (List ℕ)) → QuestionsStand o end → end ≤ length o → short ≡ with_tc (take end o) → IsEmptied o short
emptied_of o end (Some short) stand within is = (end, stand, sym is)
emptied_of o end None stand within is =
    let long : 12 ≤ length (take end o) = omega (arith, length-take-le end o within, stand.ends) in
    absurd (is_long (take end o) long (sym is))

mapped : {T E : Type 0} {P Q : T → Type 0} (r : Result T E) → ((x : T) → P x → Q x) → IfOk r P → IfOk r Q
mapped (Ok x) f h = f x h
mapped (Err e) f h = tt

pub returns-in-Some : goal.returns-in-Some
returns-in-Some c = mapped c.with_tc.result (λ short is. emptied_of c.args.message.now c.in-Some.end _ c.in-Some.ensures.stand c.in-Some.ensures.within is) c.with_tc.ensures
