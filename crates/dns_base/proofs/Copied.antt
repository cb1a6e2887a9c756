-- Questions copied into an answer.
use Rattle.std.proofs.Common.{◌≡◌, ℕ, ◌+◌, ◌-◌, ◌≤◌, ◌<◌, Bool, true, false, List, [], ◌∷◌, ◌++◌, map, length, take, drop, nat_le, if◌then◌else◌, Result, Ok, Err, refl, ap, sym, subst, ◌∙◌, arith, append_assoc, append-nil, length-append, length-drop}
use Rattle.std.specs.List.{flat_map, AllByRecursion}
use Rattle.std.proofs.Math.Seq.{take-append_seam}
use Rattle.std.proofs.lemmas.List.Concat.{flat_map-append}
use Rattle.std.proofs.lemmas.Bool.Decides.{nat_tests}
use Rattle.dns_name.specs.declared.error.ParseError.{ParseError}
use Rattle.dns_message.specs.declared.question.Question.{Question}
use Rattle.dns_base.specs.Header.{header_of}
use Rattle.dns_base.specs.Msg.{Msg, HasName}
use Rattle.dns_base.specs.Wire.{question_octets, record_octets, body, wire}
use Rattle.dns_base.specs.Sections.{Items, all_of, field, questions_of}
use Rattle.dns_base.specs.Plain.{QuestionsStand}
use Rattle.dns_base.specs.Readers.{readable_items}
use Rattle.dns_base.specs.Built.{Built, NoRecords, NoAuthority, and_question, with_question, with_header}
use Rattle.dns_base.specs.Draft.{IsDraft, counted}
use Rattle.dns_base.specs.Replies.{within_limit, with_copied, with_questions, answer_header, answer_to, have_room}
use Rattle.dns_base.proofs.Pushed.{built, viewed, draft_wire, drafted, framed, longer, no_questions}

readable_ok : {A : Type 0} (xs : List A) (more : List (Result A ParseError)) → readable_items (map Ok xs ++ more) ≡ xs ++ readable_items more
readable_ok [] more = refl
readable_ok (x ∷ xs) more = ap (λ t. x ∷ t) (readable_ok xs more)

-- the items that an iterator gives before its first refusal are the section's
pub readable_all : {A : Type 0} (i : Items A) → readable_items (all_of i) ≡ i.0
readable_all (xs, Ok end) = ap readable_items (sym (append-nil (map Ok xs))) ∙ (readable_ok xs [] ∙ append-nil xs)
readable_all (xs, Err e) = readable_ok xs (Err e ∷ []) ∙ append-nil xs

chosen : {A : Type 0} (m n : ℕ) (x y : A) → m ≤ n → (if nat_le m n then x else y) ≡ x
chosen m n x y h = grind (arith, nat_tests)

other : {A : Type 0} (m n : ℕ) (x y : A) → n < m → (if nat_le m n then x else y) ≡ y
other m n x y h = grind (arith, nat_tests)

pub copied_on : (b : Built) (q : Question) (qs : List Question) → length (wire (and_question b.message q)) ≤ b.limit → with_copied b (q ∷ qs) ≡ with_copied (with_question b q) qs
copied_on b q qs h = chosen _ _ _ _ h

pub copied_off : (b : Built) (q : Question) (qs : List Question) → b.limit < length (wire (and_question b.message q)) → with_copied b (q ∷ qs) ≡ (b, false)
copied_off b q qs h = other _ _ _ _ h

-- if all questions have room, they are added
pub all_copied : (qs : List Question) (b new : Built) → with_copied b qs ≡ (new, true) → new ≡ with_questions b qs
all_copied [] b new h = sym (ap (λ (p : Built × Bool). p.0) h) ∙ ap (λ (l : List Question). record b { message = record b.message { questions = l } }) (sym (append-nil b.message.questions))
all_copied (q ∷ qs) b new h =
    elim (within_limit (with_question b q)) as (λ t. (if t then with_copied (with_question b q) qs else (b, false)) ≡ (new, true) → new ≡ with_questions b (q ∷ qs)) [
      | true ↦ λ g. all_copied qs (with_question b q) new g ∙ ap (λ (l : List Question). record b { message = record b.message { questions = l } }) (append_assoc b.message.questions (q ∷ []) qs)
      | false ↦ λ g. (let k : false ≡ true = ap (λ (p : Built × Bool). p.1) g in absurd (cc))
    ] h

-- an answer that is begun
pub begun : (b : Built) (o : List ℕ) (rcode : ℕ) (h new : Built) → h ≡ with_header b (answer_header b.message.header (header_of o) rcode) → with_copied h (questions_of o).0 ≡ (new, true) → NoRecords b.message →
    NoAuthority new.message × (new ≡ answer_to b o rcode) × (have_room b o rcode ≡ true)
begun b o rcode h new e k n =
    let g = with_header b (answer_header b.message.header (header_of o) rcode) in
    let k' : with_copied g (questions_of o).0 ≡ (new, true) = ap (λ x. with_copied x (questions_of o).0) (sym e) ∙ k in
    let r = all_copied (questions_of o).0 g new k' in
    (record { authority = ap (λ (x : Built). x.message.authority) r ∙ n.authority; additional = ap (λ (x : Built). x.message.additional) r ∙ n.additional }, r, ap (λ (p : Built × Bool). p.1) k')

-- ---- questions copied in one

abbrev and_questions : Msg → List Question → Msg
and_questions m qs = record m { questions = m.questions ++ qs }

all_both : (xs ys : List Question) → AllByRecursion HasName xs → AllByRecursion HasName ys → AllByRecursion HasName (xs ++ ys)
all_both [] ys h k = k
all_both (x ∷ xs) ys h k = (h.0, all_both xs ys h.1 k)

questions_length : (m : Msg) (qs : List Question) → length (wire (and_questions m qs)) ≡ length (wire m) + length (flat_map question_octets qs)
unfolding wire
questions_length m qs =
    let fq = flat_map question_octets m.questions in
    let rest = flat_map record_octets m.answers ++ (flat_map record_octets m.authority ++ flat_map record_octets m.additional) in
    let a = length-append (flat_map question_octets (m.questions ++ qs)) rest in
    let b = length-append fq rest in
    let d = ap length (flat_map-append question_octets m.questions qs) ∙ length-append fq (flat_map question_octets qs) in
    omega arith

-- if all together have room, each has
all_fit : (qs : List Question) (b : Built) → length (wire (and_questions b.message qs)) ≤ b.limit → with_copied b qs ≡ (with_questions b qs, true)
all_fit [] b h = ap (λ (l : List Question). (record b { message = record b.message { questions = l } }, true)) (sym (append-nil b.message.questions))
all_fit (q ∷ qs) b h =
    let e : and_questions (and_question b.message q) qs ≡ and_questions b.message (q ∷ qs) = ap (λ (l : List Question). record b.message { questions = l }) (append_assoc b.message.questions (q ∷ []) qs) in
    let n = questions_length (and_question b.message q) qs in
    let l = ap (λ (m : Msg). length (wire m)) e in
    copied_on b q qs (omega arith) ∙ (all_fit qs (with_question b q) (omega arith)
    ∙ ap (λ (m : Msg). (record b { message = m }, true)) e)

body_questions : (m : Msg) (qs : List Question) → NoRecords m → body (and_questions m qs) ≡ body m ++ flat_map question_octets qs
body_questions m qs h =
    let fq = flat_map question_octets m.questions in
    let f = flat_map question_octets qs in
    rw (h.answers, h.authority, h.additional, flat_map-append question_octets m.questions qs, append-nil (fq ++ f), append-nil fq) refl

wire_questions : (m : Msg) (qs : List Question) (n : ℕ) → NoRecords m → n ≡ length (m.questions ++ qs) → counted 4 n (wire m ++ flat_map question_octets qs) ≡ wire (and_questions m qs)
unfolding wire
wire_questions m qs n h e =
    let f = flat_map question_octets qs in
    ap (λ k. framed m.header k (length m.answers) (length m.authority) (length m.additional) (body m ++ f)) e
    ∙ ap (λ t. framed m.header (length (m.questions ++ qs)) (length m.answers) (length m.authority) (length m.additional) t) (sym (body_questions m qs h))

-- a header alone, and the questions of a message that stand up to an end
pub record CopiedWhole (o : List ℕ) (limit : ℕ) (b : Built) (m : List ℕ) : Type 0 where
  pub draft : IsDraft o limit
  pub view : viewed o limit ≡ with_questions b (questions_of m).0
  pub copied : with_copied b (questions_of m).0 ≡ (viewed o limit, true)
  pub added : NoRecords (with_questions b (questions_of m).0).message
  pub records : NoRecords (viewed o limit).message

pub standing_done : (o p o' m : List ℕ) (limit n end : ℕ) (b : Built) → IsDraft o limit → viewed o limit ≡ b → NoRecords b.message → length (wire b.message) ≡ 12 → QuestionsStand m end → end ≤ b.limit → n ≡ field 4 m →
    p ≡ o ++ take (end - 12) (drop 12 m) → drop 2 o' ≡ counted 4 n (drop 2 p) → length o' ≡ length p → CopiedWhole o' limit b m × (end + 2 ≡ length o')
standing_done o p o' m limit n end b d v r w s h k hp g l =
    let qs = (questions_of m).0 in
    let f = flat_map question_octets qs in
    let x = draft_wire o limit b d v in
    let c : end - 12 ≡ length f = omega (arith, s.ends) in
    let t : take (end - 12) (drop 12 m) ≡ f = ap (λ y. take y (drop 12 m)) c ∙ (ap (take (length f)) s.written ∙ take-append_seam f (drop end m)) in
    let hp' : p ≡ o ++ f = hp ∙ ap (λ y. o ++ y) t in
    let z : b.message.questions ++ qs ≡ qs = ap (λ (y : List Question). y ++ qs) (no_questions b.message w) in
    let u : n ≡ length (b.message.questions ++ qs) = k ∙ (sym s.many ∙ sym (ap length z)) in
    let e : drop 2 o' ≡ wire (and_questions b.message qs) = g ∙ (ap (counted 4 n) (longer o p f limit b d v hp') ∙ wire_questions b.message qs n r u) in
    let a : length (wire (and_questions b.message qs)) ≡ end = omega (arith, questions_length b.message qs, w, s.ends) in
    let i = x.1 in
    let j = drafted o' (and_questions b.message qs) limit e (record { header = i.header; questions = all_both b.message.questions qs i.questions s.named; answers = i.answers; authority = i.authority; additional = i.additional })
    (omega (arith, a, x.3, d.limited)) d.limited (omega (arith, d.framed, l, ap length hp', length-append o f)) in
    let y : viewed o' limit ≡ with_questions b qs = j.1 ∙ ap (λ q. built (and_questions b.message qs) q) (sym x.3) in
    let added : NoRecords (and_questions b.message qs) = record { answers = r.answers; authority = r.authority; additional = r.additional } in (
      record {
        draft = j.0;
        view = y;
        copied = all_fit qs b (omega (arith, a)) ∙ ap (λ (q : Built). (q, true)) (sym y);
        added = added;
        records = subst (λ (q : Built). NoRecords q.message) (sym y) added;
      },
      omega (arith, l, ap length hp', length-append o f, s.ends, w, ap length x.0, length-drop 2 o, d.framed),
    )
