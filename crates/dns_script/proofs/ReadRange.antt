-- What is read of words, if something is.
use Rattle.std.proofs.Common.{◌≡◌, ℕ, ◌<◌, Bool, true, false, ◌&&◌, List, length, refl, ap, sym, ◌∙◌, subst, arith}
use Rattle.std.specs.Result.{result_unwrap_or}
use Rattle.std.specs.Prelude.{IfOk, Ok, Err, Result, nat_le, nat_lt, if◌then◌else◌}
use Rattle.std.proofs.lemmas.Bool.Decides.{nat_tests}
use Rattle.dns_trace.specs.Reading.{◌>>=◌, unless}
use Rattle.dns_trace.specs.Values.{number}
use Rattle.dns_trace.specs.declared.reason.Reason.{Reason}
use Rattle.dns_trace.specs.declared.reason.Reason.TheVariants.{Value}

-- what is read, if anything is, is of this kind
pub record Reads {A E : Type 0} (P : A → Type 0) (r : Result A E) : Type 0 where
  pub each : IfOk r P

pub bound : {A B E : Type 0} (P : B → Type 0) (r : Result A E) (f : A → Result B E) → ((x : A) → r ≡ Ok x → Reads P (f x)) → Reads P (r >>= f)
bound P (Ok x) f h = h x refl
bound P (Err e) f h = record { each = tt }

pub choice : {A E : Type 0} (P : A → Type 0) (b : Bool) (x y : Result A E) → (b ≡ true → Reads P x) → (b ≡ false → Reads P y) → Reads P (if b then x else y)
choice P true x y h k = h refl
choice P false x y h k = k refl

pub given : {A E : Type 0} (P : A → Type 0) (x : A) → P x → Reads {E = E} P (Ok x)
given P x h = record { each = h }

pub refused : {A E : Type 0} {P : A → Type 0} {e : E} → Reads P (Err e)
refused = record { each = tt }

pub at_ok : {A E : Type 0} (P : A → Type 0) (r : Result A E) (x : A) → Reads P r → r ≡ Ok x → P x
at_ok {A = A} {E = E} P r x h e = subst (λ (q : Result A E). IfOk q P) e h.each

pub same_ok : {A E : Type 0} (r : Result A E) (x y : A) → r ≡ Ok x → r ≡ Ok y → x ≡ y
same_ok {A = A} {E = E} r x y d e = ap (λ (q : Result A E). result_unwrap_or q x) (sym d ∙ e)

pub holds : (r : Reason) (b : Bool) (u : Unit {0}) → unless r b ≡ Ok u → b ≡ true
holds r true u e = refl
holds r false u e = cc e

less : (m top : ℕ) → nat_lt m top ≡ true → m < top
less m top h = grind (arith, nat_tests)

-- a number is below its top
number_reads : (most top : ℕ) (w : List ℕ) → Reads (λ n. n < top) (number most top w)
unfolding number
number_reads most top w = bound _ (unless Value (nat_lt 0 (length w) && nat_le (length w) most)) _ (λ u d. bound _ _ _ (λ n e. bound _ _ _ (λ v f. given _ n (less n top (holds Value (nat_lt n top) v f)))))

pub below : (most top : ℕ) (w : List ℕ) (n : ℕ) → number most top w ≡ Ok n → n < top
below most top w n e = at_ok (λ m. m < top) (number most top w) n (number_reads most top w) e
