-- Inclusions of that many levels.
use Rattle.std.proofs.Common.{◌≡◌, ℕ, zero, suc, ◌-◌, ◌<◌, List, Err, refl, ap, subst, arith}
use Rattle.std.specs.Prelude.{Result}
use Rattle.dns_zone_file.specs.ZoneFile.{ZoneDraft}
use Rattle.dns_zone_include.specs.Including.{Texts, included, one_text}
use Rattle.dns_zone_include.specs.Refusals.{GivesIn, TextRead}
use Rattle.dns_zone_include.specs.declared.inclusion.Inclusion.{Inclusion}
use Rattle.dns_zone_include.specs.declared.refusal.IncludeError.{IncludeError}
use Rattle.dns_zone_include.specs.declared.refusal.IncludeReason.TheVariants.{Depth}

pub included_none : (texts : Texts) (n : ℕ) (names : List (List ℕ)) (name : List ℕ) (d : ZoneDraft) (i : Inclusion) → n ≡ 0 → included texts n names name d i ≡ Err (name, i.line, Depth)
unfolding included
included_none texts zero names name d i h = refl
included_none texts (suc n) names name d i h = absurd (omega arith)

pub included_some : (texts : Texts) (n : ℕ) (names : List (List ℕ)) (name : List ℕ) (d : ZoneDraft) (i : Inclusion) → 0 < n → one_text texts (included texts (n - 1)) names name d i ≡ included texts n names name d i
unfolding included
included_some texts zero names name d i h = absurd (omega arith)
included_some texts (suc n) names name d i h =
    let e : suc n - 1 ≡ n = omega arith in
    ap (λ (k : ℕ). one_text texts (included texts k) names name d i) e

pub deeper : {X : Type 0} (view : X → ZoneDraft) (r : Result X IncludeError) (texts : Texts) (n : ℕ) (names : List (List ℕ)) (name : List ℕ) (d : ZoneDraft) (i : Inclusion)
    → 0 < n → GivesIn view r (one_text texts (included texts (n - 1)) names name d i) → GivesIn view r (included texts n names name d i)
deeper view r texts n names name d i h gives = subst (λ (q : TextRead ZoneDraft). GivesIn view r q) (included_some texts n names name d i h) gives
