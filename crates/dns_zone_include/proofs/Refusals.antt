-- What is refused in a text.
use Rattle.std.proofs.Common.{◌≡◌, ℕ, List, Err, ap, subst}
use Rattle.std.specs.Prelude.{Result}
use Rattle.dns_entries.specs.Reading.{LineRead, ◌>>=◌}
use Rattle.dns_entries.specs.declared.reason.EntryReason.{EntryReason}
use Rattle.dns_zone_include.specs.Refusals.{FailsIn, GivesIn, IsRefusal, TextRead, in_text}
use Rattle.dns_zone_include.specs.declared.refusal.IncludeError.{IncludeError}
use Rattle.dns_zone_include.specs.declared.refusal.IncludeError.TheVariants.{Refused, OutOfMemory}
use Rattle.dns_zone_include.specs.declared.refusal.IncludeReason.{IncludeReason}
use Rattle.dns_zone_include.specs.declared.refusal.IncludeReason.TheVariants.{Entry}

-- an error that is this refusal
pub refused_so : {A : Type 0} (name : List ℕ) (line : ℕ) (r : IncludeReason) (e : IncludeError) (read : TextRead A) → IsRefusal name line r e → read ≡ Err (name, line, r) → FailsIn e read
refused_so name line r OutOfMemory read h q = tt
refused_so name line r (Refused n l s) read h q = let a : n ≡ name = h.0 in let b : l ≡ line = h.1 in let c : s ≡ r = h.2 in cc

-- an error that is a refusal of a line
pub refused_in : {A : Type 0} (name : List ℕ) (line : ℕ) (r : EntryReason) (e : IncludeError) (read : LineRead A) → IsRefusal name line (Entry r) e → read ≡ Err (line, r) → FailsIn e (in_text name read)
refused_in name line r e read h q = refused_so name line (Entry r) e (in_text name read) h (ap (in_text name) q)

-- what is the same is given so
pub gives_along : {X A : Type 0} (view : X → A) (r : Result X IncludeError) (a b : TextRead A) → GivesIn view r a → a ≡ b → GivesIn view r b
gives_along view r a b h e = subst (λ (q : TextRead _). GivesIn view r q) e h

-- what would go on after a refusal
pub fails_on : {A B : Type 0} (e : IncludeError) (a : TextRead A) (f : A → TextRead B) → FailsIn e a → FailsIn e (a >>= f)
fails_on OutOfMemory a f h = tt
fails_on (Refused n l s) a f h = ap (λ (q : TextRead _). q >>= f) h
