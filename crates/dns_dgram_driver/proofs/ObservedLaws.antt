-- How what socket, clock and recorder tell goes through calls, in this order: d, c, j.
use Rattle.std.proofs.Common.{◌≡◌, refl}
use Rattle.std.specs.Prelude.{Result, Ok, Err, OnErr, OnOk, IfOk}
use Rattle.dns_io.specs.Causes.{Observed}

pub on_err : {X T E : Type 0} (r : Result T E) → X → OnErr r X
on_err (Ok v) x = tt
on_err (Err e) x = x

pub on_ok_by : {X Y T E : Type 0} (r : Result T E) → OnOk r X → (X → Y) → OnOk r Y
on_ok_by (Ok v) x f = f x
on_ok_by (Err e) x f = tt

pub if_ok_on : {X T E : Type 0} (r : Result T E) (P Q : T → Type 0) → IfOk r P → OnOk r X → ((v : T) → P v → X → Q v) → IfOk r Q
if_ok_on (Ok v) P Q h x f = f v h x
if_ok_on (Err e) P Q h x f = tt

pub if_ok_by : {T E : Type 0} (r : Result T E) (P Q : T → Type 0) → IfOk r P → ((v : T) → P v → Q v) → IfOk r Q
if_ok_by (Ok v) P Q h f = f v h
if_ok_by (Err e) P Q h f = tt

pub if_ok_one : {X Z T E : Type 0} (r : Result T E) → OnOk r X → (X → Z) → IfOk r (λ v. Z)
if_ok_one (Ok v) x f = f x
if_ok_one (Err e) x f = tt

pub if_ok_two : {X Y Z T E : Type 0} (r : Result T E) → OnOk r X → OnOk r Y → (X → Y → Z) → IfOk r (λ v. Z)
if_ok_two (Ok v) x y f = f x y
if_ok_two (Err e) x y f = tt

pub on_err_by : {X Y T E : Type 0} (r : Result T E) → OnErr r X → (X → Y) → OnErr r Y
on_err_by (Ok v) x f = tt
on_err_by (Err e) x f = f x

pub on_ok_is : {X T E : Type 0} (r : Result T E) → ((v : T) → r ≡ Ok v → X) → OnOk r X
on_ok_is (Ok v) f = f v refl
on_ok_is (Err e) f = tt

pub on_err_is : {X T E : Type 0} (r : Result T E) → ((e : E) → r ≡ Err e → X) → OnErr r X
on_err_is (Ok v) f = tt
on_err_is (Err e) f = f e refl

pub tells_none : {a p : Type 0} → p → Observed a a p
tells_none x = record { observed = λ t. (t, x) }

pub tells_one : {a b p r : Type 0} → Observed b a p → (p → r) → Observed b a r
tells_one x f = record { observed = λ t. let u = x.observed t in (u.0, f u.1) }

pub tells_two : {a b c p q r : Type 0} → Observed b a p → Observed c b q → (p → q → r) → Observed c a r
tells_two x y f = record { observed = λ t. let v = y.observed t in let u = x.observed v.0 in (u.0, f u.1 v.1) }

pub tells_d : {d c j d1 p r : Type 0} → Observed d1 d p → (p → r) → Observed (d1 × c × j) (d × c × j) r
tells_d x f = record { observed = λ t. let u = x.observed t.0 in ((u.0, t.1, t.2), f u.1) }

pub tells_dd_c : {d c j d1 d2 c1 p q s r : Type 0} → Observed d1 d p → Observed d2 d1 q → Observed c1 c s → (p → q → s → r) → Observed (d2 × c1 × j) (d × c × j) r
tells_dd_c x y z f = record { observed = λ t. let v = y.observed t.0 in let u = x.observed v.0 in let w = z.observed t.1 in ((u.0, w.0, t.2), f u.1 v.1 w.1) }

pub tells_cj : {d c j c1 j1 p r : Type 0} → Observed (c1 × j1) (c × j) p → (p → r) → Observed (d × c1 × j1) (d × c × j) r
tells_cj x f = record { observed = λ t. let u = x.observed (t.1, t.2) in ((t.0, u.0.0, u.0.1), f u.1) }

pub tells_dc : {d c j d1 c1 p r : Type 0} → Observed (d1 × c1) (d × c) p → (p → r) → Observed (d1 × c1 × j) (d × c × j) r
tells_dc x f = record { observed = λ t. let u = x.observed (t.0, t.1) in ((u.0.0, u.0.1, t.2), f u.1) }

pub tells_dc_j : {d c j d1 c1 j1 p q r : Type 0} → Observed (d1 × c1) (d × c) p → Observed j1 j q → (p → q → r) → Observed (d1 × c1 × j1) (d × c × j) r
tells_dc_j x y f = record { observed = λ t. let u = x.observed (t.0, t.1) in let v = y.observed t.2 in ((u.0.0, u.0.1, v.0), f u.1 v.1) }

pub tells_cj_dcj : {d c j c1 j1 d1 c2 j2 p q r : Type 0} → Observed (c1 × j1) (c × j) p → Observed (d1 × c2 × j2) (d × c1 × j1) q → (p → q → r) → Observed (d1 × c2 × j2) (d × c × j) r
tells_cj_dcj x y f = record { observed = λ t. let v = y.observed t in let u = x.observed (v.0.1, v.0.2) in ((v.0.0, u.0.0, u.0.1), f u.1 v.1) }

pub tells_d_dcj : {d c j d1 d2 c1 j1 p q r : Type 0} → Observed d1 d p → Observed (d2 × c1 × j1) (d1 × c × j) q → (p → q → r) → Observed (d2 × c1 × j1) (d × c × j) r
tells_d_dcj x y f = record { observed = λ t. let v = y.observed t in let u = x.observed v.0.0 in ((u.0, v.0.1, v.0.2), f u.1 v.1) }

pub tells_d_c_dcj : {d c j d1 d2 c1 c2 j1 p q s r : Type 0} → Observed d1 d p → Observed c1 c q → Observed (d2 × c2 × j1) (d1 × c1 × j) s → (p → q → s → r) → Observed (d2 × c2 × j1) (d × c × j) r
tells_d_c_dcj x y z f = record { observed = λ t. let w = z.observed t in let u = x.observed w.0.0 in let v = y.observed w.0.1 in ((u.0, v.0, w.0.2), f u.1 v.1 w.1) }

pub tells_dc_c_j : {d c j d1 c1 c2 j1 p q s r : Type 0} → Observed (d1 × c1) (d × c) p → Observed c2 c1 q → Observed j1 j s → (p → q → s → r) → Observed (d1 × c2 × j1) (d × c × j) r
tells_dc_c_j x y z f = record { observed = λ t. let v = y.observed t.1 in let u = x.observed (t.0, v.0) in let w = z.observed t.2 in ((u.0.0, u.0.1, w.0), f u.1 v.1 w.1) }
