-- How long messages are, and records that are added one by one.
use Rattle.std.proofs.Common.{◌≡◌, ℕ, ◌+◌, ◌≤◌, ◌<◌, List, [], ◌∷◌, ◌++◌, length, Err, ap, sym, ◌∙◌, arith, append_assoc, append-nil, length-append, get_or, drop, subst, suc}
use Rattle.std.specs.List.{flat_map}
use Rattle.std.proofs.lemmas.Grind.{flat_map-append}
use Rattle.dns_base.specs.declared.draft.Section.{Section}
use Rattle.dns_base.specs.declared.draft.Section.TheVariants.{Answer, Authority, Additional}
use Rattle.dns_base.specs.declared.error.PushError.{PushError}
use Rattle.dns_base.specs.declared.error.PushError.TheVariants.{ShortBuf, OutOfMemory as NoMemory}
use Rattle.dns_message.specs.declared.question.Question.{Question}
use Rattle.dns_base.specs.Built.{Built, Pushes, with_question, with_record}
use Rattle.dns_base.specs.Msg.{Msg, ResourceRecord}
use Rattle.dns_base.specs.Replies.{with_questions}
use Rattle.dns_base.specs.Wire.{question_octets, record_octets, wire}
use Rattle.dns_base.specs.Builds.{Becomes, Builds, unlimited, with_records}
use Rattle.dns_message.specs.declared.header.Header.{Header}
use Rattle.std.proofs.Math.Seq.{drop-cons}

-- how many octets questions and records take
abbrev pub questions_size : List Question → ℕ
questions_size qs = length (flat_map question_octets qs)

abbrev pub records_size : List ResourceRecord → ℕ
records_size rs = length (flat_map record_octets rs)

pub wire_size : (m : Msg) → length (wire m) ≡ 12 + (questions_size m.questions + (records_size m.answers + (records_size m.authority + records_size m.additional)))
unfolding wire
wire_size m =
    omega (
      arith,
      length-append (flat_map question_octets m.questions) (flat_map record_octets m.answers ++ (flat_map record_octets m.authority ++ flat_map record_octets m.additional)),
      length-append (flat_map record_octets m.answers) (flat_map record_octets m.authority ++ flat_map record_octets m.additional),
      length-append (flat_map record_octets m.authority) (flat_map record_octets m.additional),
    )

pub questions_more : (xs ys : List Question) → questions_size (xs ++ ys) ≡ questions_size xs + questions_size ys
questions_more xs ys = ap length (flat_map-append question_octets xs ys) ∙ length-append (flat_map question_octets xs) (flat_map question_octets ys)

pub records_more : (xs ys : List ResourceRecord) → records_size (xs ++ ys) ≡ records_size xs + records_size ys
records_more xs ys = ap length (flat_map-append record_octets xs ys) ∙ length-append (flat_map record_octets xs) (flat_map record_octets ys)

-- one record, and then those after it
pub record_first : (s : Section) (b : Built) (x : ResourceRecord) (ys : List ResourceRecord) → with_records s (with_record s b x) ys ≡ with_records s b (x ∷ ys)
record_first Answer b x ys = ap (λ l. record b { message = record b.message { answers = l } }) (append_assoc b.message.answers (x ∷ []) ys)
record_first Authority b x ys = ap (λ l. record b { message = record b.message { authority = l } }) (append_assoc b.message.authority (x ∷ []) ys)
record_first Additional b x ys = ap (λ l. record b { message = record b.message { additional = l } }) (append_assoc b.message.additional (x ∷ []) ys)

pub no_records : (s : Section) (b : Built) → with_records s b [] ≡ b
no_records Answer b = ap (λ l. record b { message = record b.message { answers = l } }) (append-nil b.message.answers)
no_records Authority b = ap (λ l. record b { message = record b.message { authority = l } }) (append-nil b.message.authority)
no_records Additional b = ap (λ l. record b { message = record b.message { additional = l } }) (append-nil b.message.additional)

pub question_first : (b : Built) (x : Question) (ys : List Question) → with_questions (with_question b x) ys ≡ with_questions b (x ∷ ys)
question_first b x ys = ap (λ l. record b { message = record b.message { questions = l } }) (append_assoc b.message.questions (x ∷ []) ys)

pub no_questions : (b : Built) → with_questions b [] ≡ b
no_questions b = ap (λ l. record b { message = record b.message { questions = l } }) (append-nil b.message.questions)

-- a message grows by records
pub grows : (s : Section) (b : Built) (rs : List ResourceRecord) → length (wire (with_records s b rs).message) ≡ length (wire b.message) + records_size rs
grows Answer b rs = omega (arith, wire_size (with_records Answer b rs).message, wire_size b.message, records_more b.message.answers rs)
grows Authority b rs = omega (arith, wire_size (with_records Authority b rs).message, wire_size b.message, records_more b.message.authority rs)
grows Additional b rs = omega (arith, wire_size (with_records Additional b rs).message, wire_size b.message, records_more b.message.additional rs)

pub questions_grow : (b : Built) (qs : List Question) → length (wire (with_questions b qs).message) ≡ length (wire b.message) + questions_size qs
questions_grow b qs = omega (arith, wire_size (with_questions b qs).message, wire_size b.message, questions_more b.message.questions qs)

-- the next item of a list
pub next_item : {A : Type 0} (i : ℕ) (xs : List A) (x : A) → i < length xs → x ≡ get_or xs i x → drop i xs ≡ x ∷ drop (suc i) xs
next_item i xs x h e = drop-cons xs i x h ∙ ap (λ y. y ∷ drop (suc i) xs) (sym e)

-- a record without room, then also those after it
push_refused : (s : Section) (b c : Built) (x : ResourceRecord) (ys : List ResourceRecord) (more new : Built) (e : PushError) →
    Pushes b c (with_record s b x) (Err e) → with_records s b (x ∷ ys) ≡ more → Becomes new more (Err e)
push_refused s b c x ys more new ShortBuf p h =
    let g = grows s (with_record s b x) ys in
    let i = ap (λ (k : Built). length (wire k.message)) (record_first s b x ys ∙ h) in
    let j = ap (λ (k : Built). k.limit) h in
    omega (arith, g, i, j, p.1)
push_refused s b c x ys more new NoMemory p h = tt

pub push_refused_at : (s : Section) (b c : Built) (i : ℕ) (xs : List ResourceRecord) (x : ResourceRecord) (more new : Built) (e : PushError) →
    i < length xs → x ≡ get_or xs i x → Pushes b c (with_record s b x) (Err e) → with_records s b (drop i xs) ≡ more → Becomes new more (Err e)
push_refused_at s b c i xs x more new e l is p h = push_refused s b c x (drop (suc i) xs) more new e p (ap (with_records s b) (sym (next_item i xs x l is)) ∙ h)

question_refused : (b c : Built) (x : Question) (ys : List Question) (more new : Built) (e : PushError) →
    Pushes b c (with_question b x) (Err e) → with_questions b (x ∷ ys) ≡ more → Becomes new more (Err e)
question_refused b c x ys more new ShortBuf p h =
    let g = questions_grow (with_question b x) ys in
    let i = ap (λ (k : Built). length (wire k.message)) (question_first b x ys ∙ h) in
    let j = ap (λ (k : Built). k.limit) h in
    omega (arith, g, i, j, p.1)
question_refused b c x ys more new NoMemory p h = tt

pub question_refused_at : (b c : Built) (i : ℕ) (xs : List Question) (x : Question) (more new : Built) (e : PushError) →
    i < length xs → x ≡ get_or xs i x → Pushes b c (with_question b x) (Err e) → with_questions b (drop i xs) ≡ more → Becomes new more (Err e)
question_refused_at b c i xs x more new e l is p h = question_refused b c x (drop (suc i) xs) more new e p (ap (with_questions b) (sym (next_item i xs x l is)) ∙ h)

-- ---- what has no room has none within more

within : (m n : Msg) (e : PushError) → length (wire m) ≤ length (wire n) → Builds (unlimited m) (Err e) → Builds (unlimited n) (Err e)
within m n ShortBuf s h = omega (arith, s, h)
within m n NoMemory s h = tt

-- the message of these parts
abbrev pub sections : Header → List Question → List ResourceRecord → List ResourceRecord → List ResourceRecord → Msg
sections h qs an ns ar = record { header = h; questions = qs; answers = an; authority = ns; additional = ar }

pub header_refused : (h : Header) (qs : List Question) (e : PushError) → Builds (unlimited (sections h [] [] [] [])) (Err e) → Builds (unlimited (sections h qs [] [] [])) (Err e)
header_refused h qs e b = within (sections h [] [] [] []) (sections h qs [] [] []) e (omega (arith, wire_size (sections h [] [] [] []), wire_size (sections h qs [] [] []))) b

pub questions_refused : (h : Header) (qs : List Question) (an ns ar : List ResourceRecord) (e : PushError) → Builds (unlimited (sections h qs [] [] [])) (Err e) → Builds (unlimited (sections h qs an ns ar)) (Err e)
questions_refused h qs an ns ar e b = within (sections h qs [] [] []) (sections h qs an ns ar) e (omega (arith, wire_size (sections h qs [] [] []), wire_size (sections h qs an ns ar))) b

pub answers_refused : (h : Header) (qs : List Question) (an ns ar : List ResourceRecord) (a : Built) (e : PushError) → a ≡ unlimited (sections h qs [] [] []) →
    Builds (with_records Answer a an) (Err e) → Builds (unlimited (sections h qs an ns ar)) (Err e)
answers_refused h qs an ns ar a e i b =
    within (sections h qs an [] []) (sections h qs an ns ar) e (omega (arith, wire_size (sections h qs an [] []), wire_size (sections h qs an ns ar)))
    (subst (λ (k : Built). Builds (with_records Answer k an) (Err e)) i b)

pub authority_refused : (h : Header) (qs : List Question) (an ns ar : List ResourceRecord) (a b : Built) (e : PushError) → a ≡ unlimited (sections h qs [] [] []) → b ≡ with_records Answer a an →
    Builds (with_records Authority b ns) (Err e) → Builds (unlimited (sections h qs an ns ar)) (Err e)
authority_refused h qs an ns ar a b e i j k =
    within (sections h qs an ns []) (sections h qs an ns ar) e (omega (arith, wire_size (sections h qs an ns []), wire_size (sections h qs an ns ar)))
    (subst (λ (k : Built). Builds (with_records Authority k ns) (Err e)) (j ∙ ap (λ k. with_records Answer k an) i) k)
