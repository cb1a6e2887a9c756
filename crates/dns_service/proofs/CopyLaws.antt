-- Copies of sections.
use Rattle.std.proofs.Common.{◌≡◌, ◌≤◌, ◌<◌, ◌-◌, ℕ, zero, suc, List, [], ◌∷◌, ◌++◌, length, Result, Ok, Err, refl, ap, sym, subst, ◌∙◌, nat_eq, cond, arith, append_assoc, append-nil}
use Rattle.std.specs.Prelude.{filter, not, true, false}
use Rattle.std.specs.declared.vec.Vec.{Vec}
use Rattle.std.specs.declared.alloc.Global.{Global}
use Rattle.dns_name.specs.declared.error.ParseError.{ParseError}
use Rattle.dns_name.specs.declared.error.ParseError.TheVariants.{ShortInput, Form, OutOfMemory as NoMemory}
use Rattle.dns_name.specs.Place.{Read}
use Rattle.dns_message.specs.declared.question.Question.{Question}
use Rattle.dns_base.specs.CopiedRecord.{copied_record}
use Rattle.dns_base.specs.Msg.{ResourceRecord}
use Rattle.dns_base.specs.Read.{◌>>=◌, question_at}
use Rattle.dns_base.specs.Replaced.{other_than}
use Rattle.dns_base.specs.Sections.{Items, additional_of, all_of, answers_of, authority_of, by_item, field, items_behind, items_from, questions_of, standing_additional, standing_answers, standing_authority}
use Rattle.dns_base.specs.Standing.{GivesParsed, Standing, record_at, standing_at}
use Rattle.dns_service.specs.Copied.{GivesSection, copied_records, in_front, whole_list}

-- items in front of what is left of a section
abbrev pub behind : {A : Type 0} → List A → Result (List A) ParseError → Result (List A) ParseError
behind xs (Ok ys) = Ok (xs ++ ys)
behind xs (Err e) = Err e

behind_none : {A : Type 0} (left : Result (List A) ParseError) → behind [] left ≡ left
behind_none (Ok ys) = refl
behind_none (Err e) = refl

behind_more : {A : Type 0} (xs : List A) (x : A) (left : Result (List A) ParseError) → behind (xs ++ x ∷ []) left ≡ behind xs (in_front (Ok x) left)
behind_more xs x (Ok ys) = ap Ok (append_assoc xs (x ∷ []) ys)
behind_more xs x (Err e) = refl

more : {A : Type 0} (x : A) (i : Items A) → all_of (x ∷ i.0, i.1) ≡ Ok x ∷ all_of i
more x (xs, Ok end) = refl
more x (xs, Err e) = refl

-- ---- questions

-- of that many questions from a place on, those that were copied, how many are left and where they begin
pub record QuestionsCopied (o : List ℕ) (count start : ℕ) (xs : List Question) (left at : ℕ) : Type 0 where
  pub within : at ≤ length o
  pub items : behind xs (whole_list (all_of (items_from (question_at o) left at))) ≡ whole_list (all_of (items_from (question_at o) count start))
  pub end : (items_from (question_at o) left at).1 ≡ (items_from (question_at o) count start).1

pub questions_begun : (o : List ℕ) (count start : ℕ) (xs : List Question) → xs ≡ [] → start ≤ length o → QuestionsCopied o count start xs count start
questions_begun o count start xs e h =
    let x : QuestionsCopied o count start [] count start = record { within = h; items = behind_none (whole_list (all_of (items_from (question_at o) count start))); end = refl } in
    subst (λ (l : List Question). QuestionsCopied o count start l count start) (sym e) x

next_question : (o : List ℕ) (k at : ℕ) (p : Question × ℕ) → question_at o at ≡ Ok p → whole_list (all_of (items_from (question_at o) (suc k) at)) ≡ in_front (Ok p.0) (whole_list (all_of (items_from (question_at o) k p.1)))
next_question o k at p f =
    let go : ℕ → Items Question = items_from (question_at o) k in
    ap (λ (r : Read Question). whole_list (all_of (by_item go r))) f ∙ ap (λ (l : List (Result Question ParseError)). whole_list l) (more p.0 (go p.1))

pub one_question_more : (o : List ℕ) (count start : ℕ) (xs ys : List Question) (left at : ℕ) (p : Question × ℕ) (q : Question) →
    QuestionsCopied o count start xs left at → 0 < left → question_at o at ≡ Ok p → q ≡ p.0 → p.1 ≤ length o → ys ≡ xs ++ q ∷ [] → QuestionsCopied o count start ys (left - 1) p.1
one_question_more o count start xs ys zero at p q w h f g n e = absurd (omega arith)
one_question_more o count start xs ys (suc m) at p q w h f g n e =
    let i : suc m - 1 ≡ m = omega arith in
    let a : ys ≡ xs ++ p.0 ∷ [] = e ∙ ap (λ (x : Question). xs ++ x ∷ []) g in
    let x : QuestionsCopied o count start (xs ++ p.0 ∷ []) m p.1 = record {
      within = n;
      items = behind_more xs p.0 (whole_list (all_of (items_from (question_at o) m p.1))) ∙ (ap (λ (l : Result (List Question) ParseError). behind xs l) (sym (next_question o m at p f)) ∙ w.items);
      end = sym (ap (λ (r : Read Question). (by_item (items_from (question_at o) m) r).1) f) ∙ w.end;
    } in
    subst (λ (k : ℕ). QuestionsCopied o count start ys k p.1) (sym i) (subst (λ (l : List Question). QuestionsCopied o count start l m p.1) (sym a) x)

pub question_refused : (o : List ℕ) (count start : ℕ) (xs : List Question) (left at : ℕ) (e : ParseError) → QuestionsCopied o count start xs left at → 0 < left → question_at o at ≡ Err e → whole_list (all_of (items_from (question_at o) count start)) ≡ Err e
question_refused o count start xs zero at e w h f = absurd (omega arith)
question_refused o count start xs (suc m) at e w h f = sym w.items ∙ ap (λ (r : Read Question). behind xs (whole_list (all_of (by_item (items_from (question_at o) m) r)))) f

pub question_gives : (o : List ℕ) (count start : ℕ) (xs : List Question) (left at : ℕ) (e : ParseError) (end : Result ℕ ParseError) →
    QuestionsCopied o count start xs left at → 0 < left → question_at o at ≡ Err e → GivesSection {A = Question} (Err e) (whole_list (all_of (items_from (question_at o) count start))) end
question_gives o count start xs left at NoMemory end w h f = tt
question_gives o count start xs left at ShortInput end w h f = question_refused o count start xs left at ShortInput w h f
question_gives o count start xs left at (Form reason) end w h f = question_refused o count start xs left at (Form reason) w h f

pub questions_done : (o : List ℕ) (count start : ℕ) (xs : List Question) (left at : ℕ) → QuestionsCopied o count start xs left at → left ≤ 0 →
    (whole_list (all_of (items_from (question_at o) count start)) ≡ Ok xs) × ((items_from (question_at o) count start).1 ≡ Ok at)
questions_done o count start xs zero at w h = (sym w.items ∙ ap (λ (l : List Question). Ok l) (append-nil xs), sym w.end)
questions_done o count start xs (suc m) at w h = absurd (omega arith)

-- ---- records

-- what is read, its data not looked into
abbrev plainly : Read Standing → Read ResourceRecord
plainly r = r >>= (λ s. Ok (s.0.resource, s.1))

record_there : (o : List ℕ) (at : ℕ) (p : Standing × ℕ) → standing_at o at ≡ Ok p → record_at o at ≡ Ok (p.0.resource, p.1)
unfolding record_at
record_there o at p f = ap (λ (r : Read Standing). plainly r) f

-- of that many records from a place on, those that were copied, how many are left and where they begin
pub record RecordsCopied (o : List ℕ) (count start : ℕ) (xs : List ResourceRecord) (left at : ℕ) : Type 0 where
  pub within : at ≤ length o
  pub items : behind xs (copied_records (all_of (items_from (standing_at o) left at))) ≡ copied_records (all_of (items_from (standing_at o) count start))
  pub end : (items_from (record_at o) left at).1 ≡ (items_from (record_at o) count start).1

pub records_begun : (o : List ℕ) (count start : ℕ) (xs : List ResourceRecord) → xs ≡ [] → start ≤ length o → RecordsCopied o count start xs count start
records_begun o count start xs e h =
    let x : RecordsCopied o count start [] count start = record { within = h; items = behind_none (copied_records (all_of (items_from (standing_at o) count start))); end = refl } in
    subst (λ (l : List ResourceRecord). RecordsCopied o count start l count start) (sym e) x

next_record : (o : List ℕ) (k at : ℕ) (p : Standing × ℕ) (x : Result ResourceRecord ParseError) → standing_at o at ≡ Ok p → copied_record p.0 ≡ x → copied_records (all_of (items_from (standing_at o) (suc k) at)) ≡ in_front x (copied_records (all_of (items_from (standing_at o) k p.1)))
next_record o k at p x f c =
    let go : ℕ → Items Standing = items_from (standing_at o) k in
    ap (λ (r : Read Standing). copied_records (all_of (by_item go r))) f
    ∙ (ap copied_records (more p.0 (go p.1)) ∙ ap (λ (r : Result ResourceRecord ParseError). in_front r (copied_records (all_of (go p.1)))) c)

pub one_record_more : (o : List ℕ) (count start : ℕ) (xs ys : List ResourceRecord) (left at : ℕ) (p : Standing × ℕ) (r : ResourceRecord) →
    RecordsCopied o count start xs left at → 0 < left → standing_at o at ≡ Ok p → copied_record p.0 ≡ Ok r → p.1 ≤ length o → ys ≡ xs ++ r ∷ [] → RecordsCopied o count start ys (left - 1) p.1
one_record_more o count start xs ys zero at p r w h f c n e = absurd (omega arith)
one_record_more o count start xs ys (suc m) at p r w h f c n e =
    let i : suc m - 1 ≡ m = omega arith in
    let x : RecordsCopied o count start (xs ++ r ∷ []) m p.1 = record {
      within = n;
      items = behind_more xs r (copied_records (all_of (items_from (standing_at o) m p.1))) ∙ (ap (λ (l : Result (List ResourceRecord) ParseError). behind xs l) (sym (next_record o m at p (Ok r) f c)) ∙ w.items);
      end = sym (ap (λ (s : Read ResourceRecord). (by_item (items_from (record_at o) m) s).1) (record_there o at p f)) ∙ w.end;
    } in
    subst (λ (k : ℕ). RecordsCopied o count start ys k p.1) (sym i) (subst (λ (l : List ResourceRecord). RecordsCopied o count start l m p.1) (sym e) x)

pub record_refused : (o : List ℕ) (count start : ℕ) (xs : List ResourceRecord) (left at : ℕ) (e : ParseError) → RecordsCopied o count start xs left at → 0 < left → standing_at o at ≡ Err e → copied_records (all_of (items_from (standing_at o) count start)) ≡ Err e
record_refused o count start xs zero at e w h f = absurd (omega arith)
record_refused o count start xs (suc m) at e w h f = sym w.items ∙ ap (λ (r : Read Standing). behind xs (copied_records (all_of (by_item (items_from (standing_at o) m) r)))) f

pub record_gives : (o : List ℕ) (count start : ℕ) (xs : List ResourceRecord) (left at : ℕ) (e : ParseError) (end : Result ℕ ParseError) →
    RecordsCopied o count start xs left at → 0 < left → standing_at o at ≡ Err e → GivesSection {A = ResourceRecord} (Err e) (copied_records (all_of (items_from (standing_at o) count start))) end
record_gives o count start xs left at NoMemory end w h f = tt
record_gives o count start xs left at ShortInput end w h f = record_refused o count start xs left at ShortInput w h f
record_gives o count start xs left at (Form reason) end w h f = record_refused o count start xs left at (Form reason) w h f

-- all records, by the next one
pub record_next : (o : List ℕ) (count start : ℕ) (xs : List ResourceRecord) (left at : ℕ) (p : Standing × ℕ) → RecordsCopied o count start xs left at → 0 < left → standing_at o at ≡ Ok p →
    copied_records (all_of (items_from (standing_at o) count start)) ≡ behind xs (in_front (copied_record p.0) (copied_records (all_of (items_from (standing_at o) (left - 1) p.1))))
record_next o count start xs zero at p w h f = absurd (omega arith)
record_next o count start xs (suc m) at p w h f =
    let i : m ≡ suc m - 1 = omega arith in
    sym w.items
    ∙ (ap (λ (l : Result (List ResourceRecord) ParseError). behind xs l) (next_record o m at p (copied_record p.0) f refl)
    ∙ ap (λ (k : ℕ). behind xs (in_front (copied_record p.0) (copied_records (all_of (items_from (standing_at o) k p.1))))) i)

-- the data of the next record is unreadable
copy_refused : (o : List ℕ) (count start : ℕ) (xs : List ResourceRecord) (left at : ℕ) (p : Standing × ℕ) (e : ParseError) →
    RecordsCopied o count start xs left at → 0 < left → standing_at o at ≡ Ok p → copied_record p.0 ≡ Err e → copied_records (all_of (items_from (standing_at o) count start)) ≡ Err e
copy_refused o count start xs zero at p e w h f c = absurd (omega arith)
copy_refused o count start xs (suc m) at p e w h f c = sym w.items ∙ ap (λ (l : Result (List ResourceRecord) ParseError). behind xs l) (next_record o m at p (Err e) f c)

pub data_refused : (o : List ℕ) (count start : ℕ) (xs : List ResourceRecord) (left at : ℕ) (p : Standing × ℕ) (e : ParseError) (end : Result ℕ ParseError) →
    RecordsCopied o count start xs left at → 0 < left → standing_at o at ≡ Ok p → GivesParsed {A = ResourceRecord} (Err e) (copied_record p.0) → GivesSection {A = ResourceRecord} (Err e) (copied_records (all_of (items_from (standing_at o) count start))) end
data_refused o count start xs left at p NoMemory end w h f g = tt
data_refused o count start xs left at p ShortInput end w h f g = copy_refused o count start xs left at p ShortInput w h f g
data_refused o count start xs left at p (Form reason) end w h f g = copy_refused o count start xs left at p (Form reason) w h f g

pub records_done : (o : List ℕ) (count start : ℕ) (xs : List ResourceRecord) (left at : ℕ) → RecordsCopied o count start xs left at → left ≤ 0 →
    (copied_records (all_of (items_from (standing_at o) count start)) ≡ Ok xs) × ((items_from (record_at o) count start).1 ≡ Ok at)
records_done o count start xs zero at w h = (sym w.items ∙ ap (λ (l : List ResourceRecord). Ok l) (append-nil xs), sym w.end)
records_done o count start xs (suc m) at w h = absurd (omega arith)

-- ---- sections of a message, by the place where each begins

pub questions_given : (m o : List ℕ) (n : ℕ) (r : Result (Vec Question Global × ℕ) ParseError) → o ≡ m → n ≡ field 4 o →
    GivesSection r (whole_list (all_of (items_from (question_at o) n 12))) (items_from (question_at o) n 12).1 → GivesSection r (whole_list (all_of (questions_of m))) (questions_of m).1
unfolding questions_of
questions_given m o n r e k g =
    subst (λ (y : ℕ). GivesSection r (whole_list (all_of (items_from (question_at m) y 12))) (items_from (question_at m) y 12).1) (k ∙ ap (λ (y : List ℕ). field 4 y) e)
    (subst (λ (y : List ℕ). GivesSection r (whole_list (all_of (items_from (question_at y) n 12))) (items_from (question_at y) n 12).1) e g)

-- a section of records whose number stands at a place of the header
section_given : (m o : List ℕ) (i n at : ℕ) (end : Result ℕ ParseError) (r : Result (Vec ResourceRecord Global × ℕ) ParseError) → o ≡ m → n ≡ field i o → end ≡ Ok at →
    GivesSection r (copied_records (all_of (items_from (standing_at o) n at))) (items_from (record_at o) n at).1 →
    GivesSection r (copied_records (all_of (items_behind (standing_at m) (field i m) end))) (items_behind (record_at m) (field i m) end).1
section_given m o i n at end r e k h g =
    subst (λ (y : Result ℕ ParseError). GivesSection r (copied_records (all_of (items_behind (standing_at m) (field i m) y))) (items_behind (record_at m) (field i m) y).1) (sym h)
    (subst (λ (y : ℕ). GivesSection r (copied_records (all_of (items_from (standing_at m) y at))) (items_from (record_at m) y at).1) (k ∙ ap (λ (y : List ℕ). field i y) e)
    (subst (λ (y : List ℕ). GivesSection r (copied_records (all_of (items_from (standing_at y) n at))) (items_from (record_at y) n at).1) e g))

pub answers_given : (m o : List ℕ) (n at : ℕ) (r : Result (Vec ResourceRecord Global × ℕ) ParseError) → o ≡ m → n ≡ field 6 o → (questions_of m).1 ≡ Ok at →
    GivesSection r (copied_records (all_of (items_from (standing_at o) n at))) (items_from (record_at o) n at).1 → GivesSection r (copied_records (all_of (standing_answers m))) (answers_of m).1
unfolding answers_of
answers_given m o n at r e k h g = section_given m o 6 n at (questions_of m).1 r e k h g

pub authority_given : (m o : List ℕ) (n at : ℕ) (r : Result (Vec ResourceRecord Global × ℕ) ParseError) → o ≡ m → n ≡ field 8 o → (answers_of m).1 ≡ Ok at →
    GivesSection r (copied_records (all_of (items_from (standing_at o) n at))) (items_from (record_at o) n at).1 → GivesSection r (copied_records (all_of (standing_authority m))) (authority_of m).1
unfolding authority_of
authority_given m o n at r e k h g = section_given m o 8 n at (answers_of m).1 r e k h g

pub additional_given : (m o : List ℕ) (n at : ℕ) (r : Result (Vec ResourceRecord Global × ℕ) ParseError) → o ≡ m → n ≡ field 10 o → (authority_of m).1 ≡ Ok at →
    GivesSection r (copied_records (all_of (items_from (standing_at o) n at))) (items_from (record_at o) n at).1 → GivesSection r (copied_records (all_of (standing_additional m))) (additional_of m).1
unfolding additional_of
additional_given m o n at r e k h g = section_given m o 10 n at (authority_of m).1 r e k h g

-- the records at which a test gives true, in order
pub others_filtered : (t : ℕ) (rs : List ResourceRecord) → filter (λ (r : ResourceRecord). not (nat_eq r.rtype t)) rs ≡ other_than t rs
others_filtered t [] = refl
others_filtered t (r ∷ rs) = elim (nat_eq r.rtype t) as (λ b. cond (not b) (r ∷ filter (λ (r : ResourceRecord). not (nat_eq r.rtype t)) rs) (filter (λ (r : ResourceRecord). not (nat_eq r.rtype t)) rs) ≡ cond b (other_than t rs) (r ∷ other_than t rs)) [
  | true ↦ others_filtered t rs
  | false ↦ ap (λ l. r ∷ l) (others_filtered t rs)
]
