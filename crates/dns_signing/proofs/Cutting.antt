-- What is left of a reply that is cut.
use Rattle.std.proofs.Common.{inl, inr, ◌≡◌, ℕ, ◌≤◌, ◌<◌, Bool, true, false, List, [], ◌∷◌, length, nat_le, nat_eq, if◌then◌else◌, Option, Some, None, Result, Ok, Err, sym, subst, arith}
use Rattle.std.specs.Prelude.{IfSome}
use Rattle.std.specs.List.{AllByRecursion}
use Rattle.std.proofs.lemmas.Bool.{cases_lt}
use Rattle.std.proofs.lemmas.Bool.Decides.{nat_tests}
use Rattle.dns_name.specs.declared.error.ParseError.{ParseError}
use Rattle.dns_base.specs.Msg.{Msg, ResourceRecord}
use Rattle.dns_base.specs.Options.{option_list}
use Rattle.dns_base.specs.Wire.{wire}
use Rattle.dns_base.proofs.BuildLaws.{wire_size}
use Rattle.dns_service.specs.Cut.{cut, first_fitting, fits, shortened, truncated}
use Rattle.dns_service.specs.OptIn.{minimal, opt_record_in}
use Rattle.dns_service.specs.OptRecords.{opt_record_among, where_list}
use Rattle.dns_tsig.specs.Messages.{HasNoTsig, IsOther}

pub chosen : {A : Type 0} (m n : ℕ) (x y : A) → m ≤ n → (if nat_le m n then x else y) ≡ x
chosen m n x y h = grind (arith, nat_tests)

pub other : {A : Type 0} (m n : ℕ) (x y : A) → n < m → (if nat_le m n then x else y) ≡ y
other m n x y h = grind (arith, nat_tests)

minimal_size : (m : Msg) (r : ResourceRecord) → length (wire (truncated m [] (minimal r ∷ []))) ≡ 23
minimal_size m r = wire_size (truncated m [] (minimal r ∷ []))

bare_size : (m : Msg) → length (wire (truncated m [] [])) ≡ 12
bare_size m = wire_size (truncated m [] [])

first_within : (n b : ℕ) (ms : List Msg) (last : Msg) → n ≤ b → length (wire last) ≤ b → length (wire (first_fitting n ms last)) ≤ b
first_within n b [] last g h = h
first_within n b (m ∷ ms) last g h =
    elim (cases_lt n (length (wire m))) [
      | inl y ↦ subst (λ (x : Msg). length (wire x) ≤ b) (sym (other _ _ m (first_fitting n ms last) y)) (first_within n b ms last g h)
      | inr y ↦ subst (λ (x : Msg). length (wire x) ≤ b) (sym (chosen _ _ m (first_fitting n ms last) y)) (omega arith)
    ]

shortened_within : (n b : ℕ) (m : Msg) (o : Option ResourceRecord) → n ≤ b → 23 ≤ b → length (wire (shortened n m o)) ≤ b
shortened_within n b m None g h = let z = bare_size m in first_within n b (truncated m m.questions [] ∷ []) (truncated m [] []) g (omega arith)
shortened_within n b m (Some r) g h = let z = minimal_size m r in first_within n b (truncated m m.questions (r ∷ []) ∷ truncated m m.questions (minimal r ∷ []) ∷ []) (truncated m [] (minimal r ∷ [])) g (omega arith)

-- a reply that is cut fits, as soon as the header and an OPT record without options have room
pub cut_within : (n b : ℕ) (m : Msg) → n ≤ b → 23 ≤ b → length (wire (cut n m)) ≤ b
cut_within n b m g h = first_within n b (m ∷ []) (shortened n m (opt_record_in m)) g (shortened_within n b m (opt_record_in m) g h)

pub cut_fits : (n : ℕ) (m : Msg) → 23 ≤ n → length (wire (cut n m)) ≤ n
cut_fits n m h = cut_within n n m (omega arith) h

-- a choice of two that have a property
chosen_has : (P : Msg → Type 0) (b : Bool) (x y : Msg) → P x → P y → P (if b then x else y)
chosen_has P true x y h g = h
chosen_has P false x y h g = g

minimal_other : (r : ResourceRecord) → IsOther (minimal r)
minimal_other r e = omega (arith, e)

asking_bare : (m : Msg) (rs : List ResourceRecord) → AllByRecursion IsOther rs → HasNoTsig (truncated m m.questions rs)
asking_bare m rs h = record { answers = tt; authority = tt; additional = h }

alone_bare : (m : Msg) (rs : List ResourceRecord) → AllByRecursion IsOther rs → HasNoTsig (truncated m [] rs)
alone_bare m rs h = record { answers = tt; authority = tt; additional = h }

listed_other : (r : ResourceRecord) (o : Result (List ℕ) ParseError) → IsOther r → IfSome (where_list r o) IsOther
listed_other r (Ok o) h = h
listed_other r (Err e) h = tt

among_other_by : (b : Bool) (x y : Option ResourceRecord) → IfSome x IsOther → IfSome y IsOther → IfSome (if b then x else y) IsOther
among_other_by true x y h g = h
among_other_by false x y h g = g

among_other : (rs : List ResourceRecord) → AllByRecursion IsOther rs → IfSome (opt_record_among rs) IsOther
among_other [] h = tt
among_other (r ∷ rs) h = among_other_by (nat_eq r.rtype 41) (where_list r (option_list r.rdata)) (opt_record_among rs) (listed_other r (option_list r.rdata) h.0) (among_other rs h.1)

shortened_bare : (n : ℕ) (m : Msg) (o : Option ResourceRecord) → IfSome o IsOther → HasNoTsig (shortened n m o)
shortened_bare n m None h = chosen_has HasNoTsig (fits n (truncated m m.questions [])) _ _ (asking_bare m [] tt) (alone_bare m [] tt)
shortened_bare n m (Some r) h =
    chosen_has HasNoTsig (fits n (truncated m m.questions (r ∷ []))) _ _ (asking_bare m (r ∷ []) (h, tt))
    (chosen_has HasNoTsig (fits n (truncated m m.questions (minimal r ∷ []))) _ _ (asking_bare m (minimal r ∷ []) (minimal_other r, tt)) (alone_bare m (minimal r ∷ []) (minimal_other r, tt)))

-- no TSIG comes in by cutting
pub cut_bare : (n : ℕ) (m : Msg) → HasNoTsig m → HasNoTsig (cut n m)
cut_bare n m h = chosen_has HasNoTsig (fits n m) m (shortened n m (opt_record_in m)) h (shortened_bare n m (opt_record_in m) (among_other m.additional h.additional))
