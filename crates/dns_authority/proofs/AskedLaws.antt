-- The one question of a message, whose name is a name.
use Rattle.std.proofs.Common.{◌≡◌, ℕ, Bool, true, false, List, [], ◌∷◌, Result, Ok, Err, refl, ap, sym, subst, ◌∙◌, arith, nat_eq}
use Rattle.std.specs.Prelude.{IfOk, if◌then◌else◌, Option, Some, None}
use Rattle.std.proofs.lemmas.Bool.Decides.{nat_tests}
use Rattle.dns_name.specs.Labels.{IsName}
use Rattle.dns_name.specs.Names.{name_at}
use Rattle.dns_name.specs.Place.{Read}
use Rattle.dns_name.proofs.Named.{name_named}
use Rattle.dns_base.specs.Read.{◌>>=◌, question_at, two_at}
use Rattle.dns_base.specs.Sections.{by_item, field, first_of, items_from, questions_of}
use Rattle.dns_message.specs.declared.question.Question.{Question}
use Rattle.dns_authority.specs.Authorities.{sole_question}

abbrev HasName : Question × ℕ → Type 0
HasName p = IsName p.0.qname

-- ---- a question that is read

abbrev with_class : List (List ℕ) → ℕ → Read ℕ → Read Question
with_class n t r = r >>= (λ (c : ℕ × ℕ). Ok (record { qname = n; qtype = t; qclass = c.0 }, c.1))

abbrev with_type : List ℕ → List (List ℕ) → Read ℕ → Read Question
with_type o n r = r >>= (λ (t : ℕ × ℕ). with_class n t.0 (two_at o t.1))

abbrev with_name : List ℕ → Read (List (List ℕ)) → Read Question
with_name o r = r >>= (λ (x : List (List ℕ) × ℕ). with_type o x.0 (two_at o x.1))

class_named : (n : List (List ℕ)) (t : ℕ) (r : Read ℕ) → IsName n → IfOk (with_class n t r) HasName
class_named n t (Ok c) h = h
class_named n t (Err e) h = tt

type_named : (o : List ℕ) (n : List (List ℕ)) (r : Read ℕ) → IsName n → IfOk (with_type o n r) HasName
type_named o n (Ok t) h = class_named n t.0 (two_at o t.1) h
type_named o n (Err e) h = tt

all_named : (o : List ℕ) (r : Read (List (List ℕ))) → IfOk r (λ x. IsName x.0) → IfOk (with_name o r) HasName
all_named o (Ok x) h = type_named o x.0 (two_at o x.1) h
all_named o (Err e) h = tt

question_named : (o : List ℕ) (at : ℕ) → IfOk (question_at o at) HasName
unfolding question_at
question_named o at = all_named o (name_at o at) (name_named o _ at)

-- ---- the one question

eq_one : (n : ℕ) → nat_eq n 1 ≡ true → n ≡ 1
eq_one n h = grind (arith, nat_tests)

one_item : (o : List ℕ) (q : Question) (r : Read Question) → IfOk r HasName → first_of (by_item (items_from (question_at o) 0) r).0 ≡ Some q → ((by_item (items_from (question_at o) 0) r).0 ≡ q ∷ []) × IsName q.qname
one_item o q (Ok (x, end)) n h =
    let k : x ≡ q = cc in
    (ap (λ (y : Question). y ∷ []) k, subst (λ (y : Question). IsName y.qname) k n)
one_item o q (Err e) n h = absurd (cc)

one_asked : (o : List ℕ) (q : Question) → field 4 o ≡ 1 → first_of (questions_of o).0 ≡ Some q → ((questions_of o).0 ≡ q ∷ []) × IsName q.qname
unfolding questions_of
one_asked o q n h =
    let k : (items_from (question_at o) (field 4 o) 12).0 ≡ (items_from (question_at o) 1 12).0 = ap (λ (i : ℕ). (items_from (question_at o) i 12).0) n in
    let s = one_item o q (question_at o 12) (question_named o 12) (sym (ap first_of k) ∙ h) in
    (k ∙ s.0, s.1)

sole_by : (b : Bool) (o : List ℕ) (q : Question) → nat_eq (field 4 o) 1 ≡ b → (if b then first_of (questions_of o).0 else None) ≡ Some q → ((questions_of o).0 ≡ q ∷ []) × IsName q.qname
sole_by true o q e h = one_asked o q (eq_one (field 4 o) e) h
sole_by false o q e h = absurd (cc)

pub sole_asked : (o : List ℕ) (q : Question) → sole_question o ≡ Some q → ((questions_of o).0 ≡ q ∷ []) × IsName q.qname
sole_asked o q h = sole_by (nat_eq (field 4 o) 1) o q refl h
