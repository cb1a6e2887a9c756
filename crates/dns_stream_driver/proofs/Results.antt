-- What holds if a call succeeds, and if it is refused.
use Rattle.std.specs.Prelude.{Result, Ok, Err, IfOk, OnErr}
use Rattle.dns_io.specs.Causes.{Observed}

pub on_err : {T E : Type 0} (r : Result T E) (P : Type 0) → P → OnErr r P
on_err (Ok x) P p = tt
on_err (Err e) P p = p

pub if_ok : {A E : Type 0} (r : Result A E) (P Q : A → Type 0) → ((a : A) → P a → Q a) → IfOk r P → IfOk r Q
if_ok (Ok a) P Q f h = f a h
if_ok (Err e) P Q f h = tt

pub tells_both : {A E : Type 0} (r : Result A E) (now before : Type 0) (P Q : A → Type 0) → IfOk r (λ a. Observed now before (P a)) → IfOk r (λ a. Observed now before (Q a)) → IfOk r (λ a. Observed now before (P a × Q a))
tells_both (Ok a) now before P Q h i = record { observed = λ t. let x = h.observed t in let y = i.observed t in (x.0, (x.1, y.1)) }
tells_both (Err e) now before P Q h i = tt

-- two calls, of which the second decides
pub tells_then : {A E : Type 0} (r : Result A E) (now between before : Type 0) (P Q : A → Type 0) → (between → before × ((a : A) → P a → Q a)) → IfOk r (λ a. Observed now between (P a)) → IfOk r (λ a. Observed now before (Q a))
tells_then (Ok a) now between before P Q f h = record { observed = λ t. let x = h.observed t in let y = f x.0 in (y.0, y.1 a x.1) }
tells_then (Err e) now between before P Q f h = tt

pub refused_then : {A E : Type 0} (r : Result A E) (now between before P Q : Type 0) → (between → before × (P → Q)) → OnErr r (Observed now between P) → OnErr r (Observed now before Q)
refused_then (Ok a) now between before P Q f h = tt
refused_then (Err e) now between before P Q f h = record { observed = λ t. let x = h.observed t in let y = f x.0 in (y.0, y.1 x.1) }
