-- Questions that stand as they are written.
use Rattle.std.proofs.Common.{◌≡◌, ℕ, suc, ◌+◌, ◌*◌, ◌/◌, ◌%◌, ◌<◌, ◌≤◌, List, [], ◌∷◌, ◌++◌, length, drop, get_or, Ok, Err, refl, ap, sym, ◌∙◌, arith, length-drop, length-append, append_assoc, append-nil, drop-cons}
use Rattle.std.specs.List.{flat_map, AllByRecursion}
use Rattle.std.proofs.lemmas.List.Concat.{flat_map-append}
use Rattle.dns_name.specs.Place.{Read, be16, two}
use Rattle.dns_name.specs.Labels.{spell}
use Rattle.dns_name.specs.Names.{uncompressed_at}
use Rattle.dns_name.proofs.Spelt.{length_spell, plain_spelt}
use Rattle.dns_name.specs.declared.error.ParseError.{ParseError}
use Rattle.dns_name.proofs.Grammars.{plain_read}
use Rattle.dns_message.specs.declared.question.Question.{Question}
use Rattle.dns_message.specs.Msg.{HasName}
use Rattle.dns_message.specs.Wire.{question_octets}
use Rattle.dns_message.specs.Read.{question_at}
use Rattle.dns_message.specs.Sections.{items_from, field, questions_of}
use Rattle.dns_message.specs.Plain.{QuestionStands, QuestionsStand}
use Rattle.dns_message.proofs.Written.{past, items_written, question_written}

cons_here : (o : List ℕ) (e f : ℕ) → e < length o → e + 1 ≡ f → drop e o ≡ get_or o e 0 ∷ drop f o
cons_here o e f h k = let s : suc e ≡ f = omega arith in drop-cons o e 0 h ∙ ap (λ n. get_or o e 0 ∷ drop n o) s

four_here : (o : List ℕ) (e : ℕ) → e + 4 ≤ length o → drop e o ≡ get_or o e 0 ∷ get_or o (e + 1) 0 ∷ get_or o (e + 2) 0 ∷ get_or o (e + 3) 0 ∷ drop (e + 4) o
four_here o e h =
    let a = cons_here o e (e + 1) (omega arith) refl in
    let b = cons_here o (e + 1) (e + 2) (omega arith) (omega arith) in
    let c = cons_here o (e + 2) (e + 3) (omega arith) (omega arith) in
    let d = cons_here o (e + 3) (e + 4) (omega arith) (omega arith) in
    cc

two_back : (a b : ℕ) → b < 256 → two (be16 a b) ≡ a ∷ b ∷ []
two_back a b h =
    let x : (256 * a + b) / 256 ≡ a = omega arith in
    let y : (256 * a + b) % 256 ≡ b = omega arith in
    rw (x, y) refl

pub stands_here : (o : List ℕ) (at : ℕ) (ls : List (List ℕ)) (e : ℕ) → ((k : ℕ) → get_or o k 0 < 256) → uncompressed_at o at ≡ Ok (ls, e) → e + 4 ≤ length o → QuestionStands o at (e + 4)
stands_here o at ls e b h k =
    let p = plain_read o at ls e h in
    let s = spell ls in
    let q : Question = record { qname = ls; qtype = be16 (get_or o e 0) (get_or o (e + 1) 0); qclass = be16 (get_or o (e + 2) 0) (get_or o (e + 3) 0) } in
    let f : List ℕ = get_or o e 0 ∷ get_or o (e + 1) 0 ∷ get_or o (e + 2) 0 ∷ get_or o (e + 3) 0 ∷ [] in
    let w : two q.qtype ++ two q.qclass ≡ f =
    ap (λ x. x ++ two q.qclass) (two_back (get_or o e 0) (get_or o (e + 1) 0) (b (e + 1)))
    ∙ ap (λ x. get_or o e 0 ∷ get_or o (e + 1) 0 ∷ x) (two_back (get_or o (e + 2) 0) (get_or o (e + 3) 0) (b (e + 3))) in
    let m : p.more ≡ f ++ drop (e + 4) o = sym (past o s p.more at p.spelt) ∙ (ap (λ n. drop n o) (sym p.ends) ∙ four_here o e k) in
    let g : drop at o ≡ question_octets q ++ drop (e + 4) o = p.spelt ∙ (ap (λ x. s ++ x) (m ∙ ap (λ x. x ++ drop (e + 4) o) (sym w)) ∙ sym (append_assoc s (two q.qtype ++ two q.qclass) (drop (e + 4) o))) in
    record { question = q; named = p.name; written = g; ends = omega (arith, p.ends, length-append s (two q.qtype ++ two q.qclass)) }

-- that many questions stand after the header, up to a place
pub record StandUpTo (o : List ℕ) (count at : ℕ) : Type 0 where
  pub questions : List Question
  pub many : length questions ≡ count
  pub named : AllByRecursion HasName questions
  pub written : drop 12 o ≡ flat_map question_octets questions ++ drop at o
  pub ends : at ≡ 12 + length (flat_map question_octets questions)

pub none_stand : (o : List ℕ) (count : ℕ) → count ≡ 0 → StandUpTo o count 12
none_stand o count h = record { questions = []; many = sym h; named = tt; written = refl; ends = refl }

all_with : {A : Type 0} (P : A → Type 0) (xs : List A) (x : A) → AllByRecursion P xs → P x → AllByRecursion P (xs ++ x ∷ [])
all_with P [] x h p = (p, tt)
all_with P (y ∷ ys) x h p = (h.0, all_with P ys x h.1 p)

pub one_more_stands : (o : List ℕ) (count more at end : ℕ) → StandUpTo o count at → QuestionStands o at end → more ≡ count + 1 → StandUpTo o more end
one_more_stands o count more at end s q k =
    let qs = s.questions in
    let f = flat_map question_octets qs in
    let x = question_octets q.question in
    let e : flat_map question_octets (qs ++ q.question ∷ []) ≡ f ++ x = flat_map-append question_octets qs (q.question ∷ []) ∙ ap (λ t. f ++ t) (append-nil x) in
    let w : drop 12 o ≡ flat_map question_octets (qs ++ q.question ∷ []) ++ drop end o = s.written ∙ (ap (λ t. f ++ t) q.written ∙ (sym (append_assoc f x (drop end o)) ∙ ap (λ t. t ++ drop end o) (sym e))) in
    record {
      questions = qs ++ q.question ∷ [];
      many = omega (arith, length-append qs (q.question ∷ []), s.many, k);
      named = all_with HasName qs q.question s.named q.named;
      written = w;
      ends = omega (arith, ap length e, length-append f x, s.ends, q.ends);
    }

pub all_stand : (o : List ℕ) (count end : ℕ) → StandUpTo o count end → count ≡ field 4 o → QuestionsStand o end
unfolding questions_of
all_stand o count end s k =
    let qs = s.questions in
    let n : field 4 o ≡ length qs = sym k ∙ sym s.many in
    let r : items_from (question_at o) (field 4 o) 12 ≡ (qs, Ok (12 + length (flat_map question_octets qs))) =
    rw n (items_written (question_at o) question_octets HasName o (λ q more at p h. question_written q o more at p h) qs (drop end o) 12 s.named s.written) in
    record { many = rw r (sym n); named = rw r s.named; written = rw r s.written; ends = rw r s.ends }

-- one thing is read up to one end
abbrev end_of_read : {A : Type 0} → Read A → ℕ
end_of_read (Ok x) = x.1
end_of_read (Err e) = 0

same_end : {A : Type 0} (x y : A) (m n : ℕ) (r : Read A) → r ≡ Ok (x, m) → r ≡ Ok (y, n) → m ≡ n
same_end x y m n r h k = ap end_of_read (sym h ∙ k)

-- a question that stands somewhere is found there
question_found : (o : List ℕ) (at end : ℕ) (s : QuestionStands o at end) → (uncompressed_at o at ≡ Ok (s.question.qname, at + length (spell s.question.qname))) × (at + length (spell s.question.qname) + 4 ≤ length o)
question_found o at end s =
    let n = spell s.question.qname in
    let f = two s.question.qtype ++ two s.question.qclass in
    let w : drop at o ≡ n ++ (f ++ drop end o) = s.written ∙ append_assoc n f (drop end o) in
    let l = ap length w ∙ length-append n (f ++ drop end o) in
    (plain_spelt s.question.qname o (f ++ drop end o) at w s.named, omega (arith, l, length-drop at o, length_spell s.question.qname))

pub refused_none : (o : List ℕ) (at : ℕ) (x : ParseError) → uncompressed_at o at ≡ Err x → (end : ℕ) → QuestionStands o at end → ⊥
refused_none o at x h end s = let f = question_found o at end s in let e = sym h ∙ f.0 in absurd (cc)

pub short_none : (o : List ℕ) (at : ℕ) (ls : List (List ℕ)) (e : ℕ) → uncompressed_at o at ≡ Ok (ls, e) → length o < e + 4 → (end : ℕ) → QuestionStands o at end → ⊥
short_none o at ls e h k end s =
    let f = question_found o at end s in
    let g = same_end ls s.question.qname e (at + length (spell s.question.qname)) (uncompressed_at o at) h f.0 in
    absurd (omega (arith, f.1, g))

-- of questions of which fewer stand up to a place, the next one stands there
next_stands : (o : List ℕ) (p at fin : ℕ) (xs ys : List Question) → AllByRecursion HasName xs → AllByRecursion HasName ys → drop p o ≡ flat_map question_octets xs ++ drop at o → at ≡ p + length (flat_map question_octets xs) →
    drop p o ≡ flat_map question_octets ys ++ drop fin o → length xs < length ys → (end : ℕ) × QuestionStands o at end
next_stands o p at fin xs [] n m h e k l = absurd (omega arith)
next_stands o p at fin [] (y ∷ ys) n m h e k l =
    let x = question_octets y in
    let r = flat_map question_octets ys ++ drop fin o in
    let w : drop at o ≡ x ++ r = ap (λ i. drop i o) (let z : at ≡ p = omega arith in z) ∙ (k ∙ append_assoc x (flat_map question_octets ys) (drop fin o)) in
    (at + length x, record { question = y; named = m.0; written = w ∙ ap (λ t. x ++ t) (sym (past o x r at w)); ends = refl })
next_stands o p at fin (x ∷ xs) (y ∷ ys) n m h e k l =
    let v = flat_map question_octets xs ++ drop at o in
    let r = flat_map question_octets ys ++ drop fin o in
    let hx = h ∙ append_assoc (question_octets x) (flat_map question_octets xs) (drop at o) in
    let hy = k ∙ append_assoc (question_octets y) (flat_map question_octets ys) (drop fin o) in
    let i = same_end y x (p + length (question_octets y)) (p + length (question_octets x)) (question_at o p) (question_written y o r p m.0 hy) (question_written x o v p n.0 hx) in
    next_stands o (p + length (question_octets x)) at fin xs ys n.1 m.1 (past o (question_octets x) v p hx) (omega (arith, e, length-append (question_octets x) (flat_map question_octets xs)))
    (ap (λ t. drop t o) (sym i) ∙ past o (question_octets y) r p hy) (omega arith)

pub behind_none : (o : List ℕ) (count at : ℕ) → StandUpTo o count at → count < field 4 o → ((end : ℕ) → QuestionStands o at end → ⊥) → (fin : ℕ) → QuestionsStand o fin → ⊥
behind_none o count at s h none fin q =
    let n = next_stands o 12 at fin s.questions (questions_of o).0 s.named q.named s.written s.ends q.written (omega (arith, s.many, q.many)) in
    none n.0 n.1
