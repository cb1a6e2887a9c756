-- What a truncated message takes.
use Rattle.std.specs.Prelude.{IfSome, nat_eq, Result, Ok, Err}
use Rattle.std.proofs.lemmas.Bool.{cases_lt}
use Rattle.std.proofs.Common.{inl, inr, ◌≡◌, ℕ, ◌+◌, ◌≤◌, ◌<◌, Bool, true, false, List, [], ◌∷◌, ◌++◌, length, nat_le, if◌then◌else◌, Option, Some, None, ap, sym, subst, ◌∙◌, arith, length-append, append_assoc, append-nil}
use Rattle.std.specs.List.{flat_map, AllByRecursion}
use Rattle.std.proofs.lemmas.Bool.Decides.{nat_tests}
use Rattle.std.proofs.lemmas.List.Concat.{flat_map-append}
use Rattle.dns_message.specs.declared.question.Question.{Question}
use Rattle.dns_name.specs.declared.error.ParseError.{ParseError}
use Rattle.dns_base.specs.Msg.{Msg, ResourceRecord, IsMessage, HasName, HasOwner}
use Rattle.dns_base.specs.Options.{option_list}
use Rattle.dns_base.specs.Wire.{question_octets, record_octets, wire}
use Rattle.dns_base.specs.Built.{Built, with_additional, with_question}
use Rattle.dns_base.specs.Replies.{with_copied}
use Rattle.dns_base.specs.Readers.{readable_items}
use Rattle.dns_replies.specs.Cut.{fits, truncated, first_fitting, shortened, cut}
use Rattle.dns_replies.specs.CutSteps.{built_fitting, or_else, Added}
use Rattle.dns_opt.specs.OptRecords.{where_list, listed, opt_record_among}
use Rattle.dns_replies.specs.OptIn.{minimal, opt_record_in}

-- the octets of questions and of records
abbrev pub asking : List Question → ℕ
asking qs = length (flat_map question_octets qs)

abbrev pub holding : List ResourceRecord → ℕ
holding rs = length (flat_map record_octets rs)

pub size : (m : Msg) (qs : List Question) (rs : List ResourceRecord) → length (wire (truncated m qs rs)) ≡ 12 + asking qs + holding rs
unfolding wire
size m qs rs = omega (arith, length-append (flat_map question_octets qs) (flat_map record_octets rs))

asking_more : (qs more : List Question) → asking (qs ++ more) ≡ asking qs + asking more
asking_more qs more = ap length (flat_map-append question_octets qs more) ∙ length-append (flat_map question_octets qs) (flat_map question_octets more)

-- ---- questions that are copied

chosen : {A : Type 0} (m n : ℕ) (x y : A) → m ≤ n → (if nat_le m n then x else y) ≡ x
chosen m n x y h = grind (arith, nat_tests)

other : {A : Type 0} (m n : ℕ) (x y : A) → n < m → (if nat_le m n then x else y) ≡ y
other m n x y h = grind (arith, nat_tests)

copied_on : (b : Built) (q : Question) (qs : List Question) → length (wire (with_question b q).message) ≤ b.limit → with_copied b (q ∷ qs) ≡ with_copied (with_question b q) qs
copied_on b q qs h = chosen _ _ _ _ h

copied_off : (b : Built) (q : Question) (qs : List Question) → b.limit < length (wire (with_question b q).message) → with_copied b (q ∷ qs) ≡ (b, false)
copied_off b q qs h = other _ _ _ _ h

abbrev pub at : Msg → ℕ → List Question → Built
at m n qs = record { message = truncated m qs []; limit = n }

copied_within : (m : Msg) (n : ℕ) (more qs : List Question) → 12 + asking (qs ++ more) ≤ n → with_copied (at m n qs) more ≡ (at m n (qs ++ more), true)
copied_within m n [] qs h = ap (λ l. (at m n l, true)) (sym (append-nil qs))
copied_within m n (q ∷ more) qs h =
    let e : (qs ++ q ∷ []) ++ more ≡ qs ++ q ∷ more = append_assoc qs (q ∷ []) more in
    let k : 12 + asking ((qs ++ q ∷ []) ++ more) ≤ n = subst (λ l. 12 + asking l ≤ n) (sym e) h in
    let here : length (wire (truncated m (qs ++ q ∷ []) [])) ≤ n = omega (arith, size m (qs ++ q ∷ []) [], asking_more (qs ++ q ∷ []) more) in
    copied_on (at m n qs) q more here ∙ (copied_within m n more (qs ++ q ∷ []) k ∙ ap (λ l. (at m n l, true)) e)

copied_past : (m : Msg) (n : ℕ) (more qs : List Question) → 12 + asking qs ≤ n → n < 12 + asking (qs ++ more) → (with_copied (at m n qs) more).1 ≡ false
copied_past m n [] qs h g =
    let e : asking (qs ++ []) ≡ asking qs = ap asking (append-nil qs) in
    absurd (omega arith)
copied_past m n (q ∷ more) qs h g =
    let e : (qs ++ q ∷ []) ++ more ≡ qs ++ q ∷ more = append_assoc qs (q ∷ []) more in
    let k : n < 12 + asking ((qs ++ q ∷ []) ++ more) = subst (λ l. n < 12 + asking l) (sym e) g in
    let s = size m (qs ++ q ∷ []) [] in
    elim (cases_lt n (12 + asking (qs ++ q ∷ []))) [
      | inl y ↦ ap (λ (p : Built × Bool). p.1) (copied_off (at m n qs) q more (omega (arith, s)))
      | inr y ↦ ap (λ (p : Built × Bool). p.1) (copied_on (at m n qs) q more (omega (arith, s))) ∙ copied_past m n more (qs ++ q ∷ []) (omega arith) k
    ]

-- ---- what fits

abbrev pub of : Msg → ℕ → Built
of m n = record { message = m; limit = n }

pub fit : (n : ℕ) (m : Msg) → length (wire m) ≤ n → built_fitting n m ≡ Some (of m n)
fit n m h = chosen _ _ _ _ h

pub unfit : (n : ℕ) (m : Msg) → n < length (wire m) → built_fitting n m ≡ None
unfit n m h = other _ _ _ _ h

-- the questions are copied
pub questions_fit : (m : Msg) (n : ℕ) (new : Built) → 12 ≤ n → with_copied (at m n []) m.questions ≡ (new, true) → Some new ≡ built_fitting n (truncated m m.questions [])
questions_fit m n new h g =
    let s = size m m.questions [] in
    elim (cases_lt n (12 + asking m.questions)) [
      | inl y ↦ (let k : false ≡ true = sym (copied_past m n m.questions [] h y) ∙ ap (λ (p : Built × Bool). p.1) g in absurd (cc))
      | inr y ↦ ap (λ (p : Built × Bool). Some p.0) (sym g ∙ copied_within m n m.questions [] y) ∙ sym (fit n (truncated m m.questions []) (omega (arith, s)))
    ]

pub questions_past : (m : Msg) (n : ℕ) (new : Built) → with_copied (at m n []) m.questions ≡ (new, false) → None ≡ built_fitting n (truncated m m.questions [])
questions_past m n new g =
    let s = size m m.questions [] in
    elim (cases_lt n (12 + asking m.questions)) [
      | inl y ↦ sym (unfit n (truncated m m.questions []) (omega (arith, s)))
      | inr y ↦ (let k : true ≡ false = sym (ap (λ (p : Built × Bool). p.1) (copied_within m n m.questions [] y)) ∙ ap (λ (p : Built × Bool). p.1) g in absurd (cc))
    ]

pub questions_never : (m : Msg) (n : ℕ) → n < 12 → None ≡ built_fitting n (truncated m m.questions [])
questions_never m n h = let s = size m m.questions [] in sym (unfit n (truncated m m.questions []) (omega (arith, s)))

-- the questions of a message, by what an iterator over them gives
pub copied_given : (m : Msg) (n : ℕ) (b new : Built) (items : List (Result Question ParseError)) (all want : Bool) →
    readable_items items ≡ m.questions → b ≡ at m n [] → with_copied b (readable_items items) ≡ (new, all) → all ≡ want → with_copied (at m n []) m.questions ≡ (new, want)
copied_given m n b new items all want g e k w =
    ap (λ x. with_copied x m.questions) (sym e) ∙ (ap (with_copied b) (sym g) ∙ (k ∙ ap (λ t. (new, t)) w))

-- ---- a record more

abbrev pub grown : Msg → ℕ → ResourceRecord → Built
grown m n r = of (truncated m m.questions (r ∷ [])) n

more_none : (m : Msg) (n : ℕ) (rs : List ResourceRecord) → None ≡ built_fitting n (truncated m m.questions []) → None ≡ built_fitting n (truncated m m.questions rs)
more_none m n rs h =
    let s = size m m.questions [] in
    let t = size m m.questions rs in
    elim (cases_lt n (12 + asking m.questions)) [
      | inl y ↦ sym (unfit n (truncated m m.questions rs) (omega (arith, s, t)))
      | inr y ↦ (let k = h ∙ fit n (truncated m m.questions []) (omega (arith, s)) in absurd (cc))
    ]

pub neither : (m : Msg) (n : ℕ) (r q : ResourceRecord) → None ≡ built_fitting n (truncated m m.questions []) → None ≡ or_else (built_fitting n (truncated m m.questions (r ∷ []))) (built_fitting n (truncated m m.questions (q ∷ [])))
neither m n r q h =
    let a = more_none m n (r ∷ []) h in
    let b = more_none m n (q ∷ []) h in
    b ∙ ap (λ x. or_else x (built_fitting n (truncated m m.questions (q ∷ [])))) a

-- a minimal OPT record has room alone
alone_by : (m : Msg) (r : ResourceRecord) (b : Bool) (new : Built) → Added (of (truncated m [] []) 65535) new (of (truncated m [] (minimal r ∷ [])) 65535) b → new.message ≡ truncated m [] (minimal r ∷ [])
alone_by m r true new h = ap (λ (x : Built). x.message) h.0
alone_by m r false new h = let s = size m [] (minimal r ∷ []) in absurd (omega (arith, h.1))

pub alone_added : (m : Msg) (r q : ResourceRecord) (b : Bool) (old new : Built) → old ≡ of (truncated m [] []) 65535 → q ≡ minimal r → Added old new (with_additional old q) b → new.message ≡ truncated m [] (minimal r ∷ [])
alone_added m r q b old new e f h =
    let k : Added old new (with_additional old (minimal r)) b = subst (λ (x : ResourceRecord). Added old new (with_additional old x) b) f h in
    alone_by m r b new (subst (λ (x : Built). Added x new (with_additional x (minimal r)) b) e k)

-- ---- laws

pub minimal_size : (m : Msg) (r : ResourceRecord) → length (wire (truncated m [] (minimal r ∷ []))) ≡ 23
minimal_size m r = size m [] (minimal r ∷ [])

pub bare_size : (m : Msg) → length (wire (truncated m [] [])) ≡ 12
bare_size m = size m [] []

first_fits : (n : ℕ) (ms : List Msg) (last : Msg) → length (wire last) ≤ n → length (wire (first_fitting n ms last)) ≤ n
first_fits n [] last h = h
first_fits n (m ∷ ms) last h =
    elim (cases_lt n (length (wire m))) [
      | inl y ↦ subst (λ (x : Msg). length (wire x) ≤ n) (sym (other _ _ m (first_fitting n ms last) y)) (first_fits n ms last h)
      | inr y ↦ subst (λ (x : Msg). length (wire x) ≤ n) (sym (chosen _ _ m (first_fitting n ms last) y)) y
    ]

shortened_fits : (n : ℕ) (m : Msg) (o : Option ResourceRecord) → 23 ≤ n → length (wire (shortened n m o)) ≤ n
shortened_fits n m None h = let b = bare_size m in first_fits n (truncated m m.questions [] ∷ []) (truncated m [] []) (omega arith)
shortened_fits n m (Some r) h = let b = minimal_size m r in first_fits n (truncated m m.questions (r ∷ []) ∷ truncated m m.questions (minimal r ∷ []) ∷ []) (truncated m [] (minimal r ∷ [])) (omega arith)

pub all_fit : (n : ℕ) (m : Msg) → 512 ≤ n → length (wire (cut n m)) ≤ n
all_fit n m h =
    let last = shortened n m (opt_record_in m) in
    first_fits n (m ∷ []) last (shortened_fits n m (opt_record_in m) (omega arith))

-- a choice of two that have a property
chosen_has : (P : Msg → Type 0) (b : Bool) (x y : Msg) → P x → P y → P (if b then x else y)
chosen_has P true x y h g = h
chosen_has P false x y h g = g

root : (r : ResourceRecord) → HasOwner (minimal r)
root r = record { labels = tt; room = omega arith }

truncated_lawful : (m : Msg) (qs : List Question) (rs : List ResourceRecord) → IsMessage m → AllByRecursion HasName qs → AllByRecursion HasOwner rs → IsMessage (truncated m qs rs)
truncated_lawful m qs rs i q r = record { header = record { id = i.header.id; opcode = i.header.opcode; rcode = i.header.rcode }; questions = q; answers = tt; authority = tt; additional = r }

listed_owned : (r : ResourceRecord) (o : Result (List ℕ) ParseError) → HasOwner r → IfSome (where_list r o) HasOwner
listed_owned r (Ok o) h = h
listed_owned r (Err e) h = tt

among_owned_by : (b : Bool) (x y : Option ResourceRecord) → IfSome x HasOwner → IfSome y HasOwner → IfSome (if b then x else y) HasOwner
among_owned_by true x y h g = h
among_owned_by false x y h g = g

among_owned : (rs : List ResourceRecord) → AllByRecursion HasOwner rs → IfSome (opt_record_among rs) HasOwner
among_owned [] h = tt
among_owned (r ∷ rs) h = among_owned_by (nat_eq r.rtype 41) (listed r) (opt_record_among rs) (listed_owned r (option_list r.rdata) h.0) (among_owned rs h.1)

shortened_lawful : (n : ℕ) (m : Msg) (o : Option ResourceRecord) → IfSome o HasOwner → IsMessage m → IsMessage (shortened n m o)
shortened_lawful n m None h i = chosen_has IsMessage (fits n (truncated m m.questions [])) _ _ (truncated_lawful m m.questions [] i i.questions tt) (truncated_lawful m [] [] i tt tt)
shortened_lawful n m (Some r) h i =
    chosen_has IsMessage (fits n (truncated m m.questions (r ∷ []))) _ _ (truncated_lawful m m.questions (r ∷ []) i i.questions (h, tt))
    (chosen_has IsMessage (fits n (truncated m m.questions (minimal r ∷ []))) _ _ (truncated_lawful m m.questions (minimal r ∷ []) i i.questions (root r, tt)) (truncated_lawful m [] (minimal r ∷ []) i tt (root r, tt)))

pub all_lawful : (n : ℕ) (m : Msg) → IsMessage m → IsMessage (cut n m)
all_lawful n m i = chosen_has IsMessage (fits n m) m (shortened n m (opt_record_in m)) i (shortened_lawful n m (opt_record_in m) (among_owned m.additional i.additional) i)
