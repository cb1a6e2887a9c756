-- A message without its last section.
use Rattle.std.proofs.Common.{◌≡◌, ℕ, suc, ◌+◌, ◌≤◌, List, [], ◌∷◌, ◌++◌, length, drop, take, Result, Ok, refl, ap, sym, ◌∙◌, arith, length-append, length-drop, append_assoc, append-nil}
use Rattle.std.specs.List.{flat_map}
use Rattle.std.proofs.Math.Seq.{take-append_seam}
use Rattle.dns_name.specs.declared.error.ParseError.{ParseError}
use Rattle.dns_name.specs.Place.{two}
use Rattle.dns_base.specs.declared.draft.Section.{Section}
use Rattle.dns_base.specs.declared.draft.Section.TheVariants.{Answer, Authority, Additional}
use Rattle.dns_message.specs.declared.header.Header.{Header}
use Rattle.dns_base.specs.Header.{header_octets}
use Rattle.dns_base.specs.Msg.{Msg, IsMessage}
use Rattle.dns_base.specs.Wire.{question_octets, record_octets, counts, body, wire}
use Rattle.dns_base.specs.Built.{Built, NoRecords, IsLast, less_records, less_questions, less_section}
use Rattle.dns_base.specs.Draft.{IsDraft, count_place, counted, start_of}
use Rattle.dns_message.proofs.Written.{questions_written, answers_written, authority_written}
use Rattle.dns_base.proofs.Pushed.{built, viewed, drafted, draft_wire}

abbrev pub framed : Header → ℕ → ℕ → ℕ → ℕ → List ℕ → List ℕ
framed h nq na nn nr t = header_octets h ++ ((two nq ++ (two na ++ (two nn ++ two nr))) ++ t)

-- where the octets of all but the last section end
abbrev pub kept : Section → Msg → List ℕ
kept Answer m = flat_map question_octets m.questions
kept Authority m = flat_map question_octets m.questions ++ flat_map record_octets m.answers
kept Additional m = flat_map question_octets m.questions ++ (flat_map record_octets m.answers ++ flat_map record_octets m.authority)

take_past : (h t : List ℕ) (k : ℕ) → take (length h + k) (h ++ t) ≡ h ++ take k t
take_past [] t k = ap (λ n. take n t) (omega arith)
take_past (x ∷ h) t k =
    let e : suc (length h) + k ≡ suc (length h + k) = omega arith in
    rw e (ap (λ l. x ∷ l) (take_past h t k))

-- the octets up to a part of the body
cut_at : (m : Msg) (pre post : List ℕ) → body m ≡ pre ++ post →
    take (12 + length pre) (wire m) ≡ framed m.header (length m.questions) (length m.answers) (length m.authority) (length m.additional) pre
unfolding wire
cut_at m pre post e =
    let h : List ℕ = header_octets m.header ++ counts m in
    take_past h (body m) (length pre) ∙ ap (λ t. h ++ t) (ap (take (length pre)) e ∙ take-append_seam pre post)

-- where a section begins
pub starts : (s : Section) (m : Msg) → IsMessage m → start_of s (wire m) ≡ Ok (12 + length (kept s m))
starts Answer m n = ap (λ i. i.1) (questions_written m n)
starts Authority m n =
    let fq = flat_map question_octets m.questions in
    let fa = flat_map record_octets m.answers in
    let e : 12 + length fq + length fa ≡ 12 + length (fq ++ fa) = omega (arith, length-append fq fa) in
    ap (λ i. i.1) (answers_written m n) ∙ ap (λ x. Ok x) e
starts Additional m n =
    let fq = flat_map question_octets m.questions in
    let fa = flat_map record_octets m.answers in
    let fn = flat_map record_octets m.authority in
    let e : 12 + length fq + length fa + length fn ≡ 12 + length (fq ++ (fa ++ fn)) = omega (arith, length-append fq (fa ++ fn), length-append fa fn) in
    ap (λ i. i.1) (authority_written m n) ∙ ap (λ x. Ok x) e

-- what is left of the message
left : (s : Section) (m : Msg) → IsLast s m → counted (count_place s) 0 (take (12 + length (kept s m)) (wire m)) ≡ wire (less_records s m)
unfolding wire
left Answer m h =
    let fq = flat_map question_octets m.questions in
    let fa = flat_map record_octets m.answers in
    let fn = flat_map record_octets m.authority in
    let fr = flat_map record_octets m.additional in
    let z : fn ++ fr ≡ [] = rw (h.authority, h.additional) refl in
    let e : fq ≡ fq ++ (fn ++ fr) = sym (append-nil fq) ∙ ap (λ t. fq ++ t) (sym z) in
    ap (counted 6 0) (cut_at m fq (fa ++ (fn ++ fr)) refl)
    ∙ ap (λ t. framed m.header (length m.questions) 0 (length m.authority) (length m.additional) t) e
left Authority m h =
    let fq = flat_map question_octets m.questions in
    let fa = flat_map record_octets m.answers in
    let fn = flat_map record_octets m.authority in
    let fr = flat_map record_octets m.additional in
    let z : fr ≡ [] = rw h refl in
    let e : fq ++ fa ≡ fq ++ (fa ++ fr) = ap (λ t. fq ++ t) (sym (append-nil fa) ∙ ap (λ t. fa ++ t) (sym z)) in
    ap (counted 8 0) (cut_at m (fq ++ fa) (fn ++ fr) (sym (append_assoc fq fa (fn ++ fr))))
    ∙ ap (λ t. framed m.header (length m.questions) (length m.answers) 0 (length m.additional) t) e
left Additional m h =
    let fq = flat_map question_octets m.questions in
    let fa = flat_map record_octets m.answers in
    let fn = flat_map record_octets m.authority in
    let fr = flat_map record_octets m.additional in
    let e : fq ++ (fa ++ fn) ≡ fq ++ (fa ++ (fn ++ [])) = ap (λ t. fq ++ (fa ++ t)) (sym (append-nil fn)) in
    ap (counted 10 0) (cut_at m (fq ++ (fa ++ fn)) fr (ap (λ t. fq ++ t) (sym (append_assoc fa fn fr)) ∙ sym (append_assoc fq (fa ++ fn) fr)))
    ∙ ap (λ t. framed m.header (length m.questions) (length m.answers) (length m.authority) 0 t) e

lawful_less : (s : Section) (m : Msg) → IsMessage m → IsMessage (less_records s m)
lawful_less Answer m i = record { header = i.header; questions = i.questions; answers = tt; authority = i.authority; additional = i.additional }
lawful_less Authority m i = record { header = i.header; questions = i.questions; answers = i.answers; authority = tt; additional = i.additional }
lawful_less Additional m i = record { header = i.header; questions = i.questions; answers = i.answers; authority = i.authority; additional = tt }

same_place : (r : Result ℕ ParseError) (n k : ℕ) → r ≡ Ok n → r ≡ Ok k → n ≡ k
same_place r n k h g = cc

-- the place where the last section begins
pub start_known : (s : Section) (o : List ℕ) (n : ℕ) (limit : ℕ) (b : Built) → IsDraft o limit → viewed o limit ≡ b → start_of s (wire b.message) ≡ Ok n → n ≡ 12 + length (kept s b.message)
start_known s o n limit b d v h = same_place _ n _ h (starts s b.message (draft_wire o limit b d v).1)

-- the last section begins in the octets
kept_short : (s : Section) (m : Msg) → 12 + length (kept s m) ≤ length (wire m)
unfolding wire
kept_short Answer m =
    let fq = flat_map question_octets m.questions in
    let rest = flat_map record_octets m.answers ++ (flat_map record_octets m.authority ++ flat_map record_octets m.additional) in
    omega (arith, length-append fq rest)
kept_short Authority m =
    let fq = flat_map question_octets m.questions in
    let fa = flat_map record_octets m.answers in
    let rest = flat_map record_octets m.authority ++ flat_map record_octets m.additional in
    omega (arith, length-append fq (fa ++ rest), length-append fa rest, length-append fq fa)
kept_short Additional m =
    let fq = flat_map question_octets m.questions in
    let fa = flat_map record_octets m.answers in
    let fn = flat_map record_octets m.authority in
    let fr = flat_map record_octets m.additional in
    omega (arith, length-append fq (fa ++ (fn ++ fr)), length-append fa (fn ++ fr), length-append fn fr, length-append fq (fa ++ fn), length-append fa fn)

pub behind : (s : Section) (o : List ℕ) (n limit : ℕ) (b : Built) → IsDraft o limit → viewed o limit ≡ b → start_of s (wire b.message) ≡ Ok n → n + 2 ≤ length o
behind s o n limit b d v h =
    let p = start_known s o n limit b d v h in
    let k = kept_short s b.message in
    omega (arith, ap length (draft_wire o limit b d v).0, length-drop 2 o, d.framed)

-- a rewind of a section of records
pub rewound : (s : Section) (o o' : List ℕ) (n limit : ℕ) (b : Built) → IsDraft o limit → viewed o limit ≡ b → IsLast s b.message → start_of s (wire b.message) ≡ Ok n → n + 2 ≤ length o →
    drop 2 o' ≡ counted (count_place s) 0 (take n (drop 2 o)) → length o' ≡ n + 2 → IsDraft o' limit × (viewed o' limit ≡ less_section s b)
rewound s o o' n limit b d v h k q e l =
    let w = draft_wire o limit b d v in
    let m = b.message in
    let p = start_known s o n limit b d v k in
    let f : drop 2 o' ≡ wire (less_records s m) =
    e ∙ (ap (λ t. counted (count_place s) 0 (take n t)) w.0 ∙ (ap (λ t. counted (count_place s) 0 (take t (wire m))) p ∙ left s m h)) in
    let t = drafted o' (less_records s m) limit f (lawful_less s m w.1) (omega (arith, ap length f, length-drop 2 o', length-drop 2 o, d.built.short)) d.limited (omega arith) in
    (t.0, t.1 ∙ ap (λ x. built (less_records s m) x) (sym w.3))

left_questions : (m : Msg) → NoRecords m → counted 4 0 (take 12 (wire m)) ≡ wire (record m { questions = [] })
unfolding wire
left_questions m h =
    let fa = flat_map record_octets m.answers in
    let fn = flat_map record_octets m.authority in
    let fr = flat_map record_octets m.additional in
    let z : [] ≡ fa ++ (fn ++ fr) = rw (h.answers, h.authority, h.additional) refl in
    ap (λ t. framed m.header 0 (length m.answers) (length m.authority) (length m.additional) t) z

-- a rewind of the questions
pub rewound_questions : (o o' : List ℕ) (limit : ℕ) (b : Built) → IsDraft o limit → viewed o limit ≡ b → NoRecords b.message →
    drop 2 o' ≡ counted 4 0 (take 12 (drop 2 o)) → length o' ≡ 14 → IsDraft o' limit × (viewed o' limit ≡ less_questions b)
rewound_questions o o' limit b d v h e l =
    let w = draft_wire o limit b d v in
    let m = b.message in
    let n : Msg = record m { questions = [] } in
    let i = w.1 in
    let f : drop 2 o' ≡ wire n = e ∙ (ap (λ t. counted 4 0 (take 12 t)) w.0 ∙ left_questions m h) in
    let t = drafted o' n limit f (record { header = i.header; questions = tt; answers = i.answers; authority = i.authority; additional = i.additional }) (omega (arith, ap length f, length-drop 2 o')) d.limited (omega arith) in
    (t.0, t.1 ∙ ap (λ x. built n x) (sym w.3))
