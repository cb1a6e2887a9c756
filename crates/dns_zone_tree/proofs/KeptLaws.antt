-- What follows of a call that succeeds.
use Rattle.std.specs.Prelude.{⊤, IfOk, OnOk, Result, Ok, Err}
use Rattle.dns_name.specs.declared.error.OutOfMemory.{OutOfMemory}

pub on_ok : {A B : Type 0} (r : Result ⊤ OutOfMemory) → OnOk r A → (A → B) → OnOk r B
on_ok (Ok x) a f = f a
on_ok (Err e) a f = tt

pub if_ok : {A : Type 0} (P Q : A → Type 0) (r : Result A OutOfMemory) → IfOk r P → ((x : A) → P x → Q x) → IfOk r Q
if_ok P Q (Ok x) h f = f x h
if_ok P Q (Err e) h f = tt

pub on_both : {A B C : Type 0} (r : Result ⊤ OutOfMemory) → OnOk r A → OnOk r B → (A → B → C) → OnOk r C
on_both (Ok x) a b f = f a b
on_both (Err e) a b f = tt
