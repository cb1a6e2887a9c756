-- What is built of a router's own replies.
use Rattle.std.proofs.Common.{◌≡◌, ℕ, ◌%◌, ◌<◌, Bool, true, false, if◌then◌else◌, List, [], ◌∷◌, ◌++◌, Option, Some, None, Result, Ok, Err, refl, ap, sym, subst, ◌∙◌, arith, inl, inr}
use Rattle.std.specs.Prelude.{◌||◌, map, nat_eq, option_map}
use Rattle.std.specs.List.{AllZip, list_any}
use Rattle.dns_name.specs.declared.error.ParseError.{ParseError}
use Rattle.dns_base.specs.Built.{Built, empty, with_header, with_question}
use Rattle.dns_base.specs.Msg.{Msg, IsMessage, ResourceRecord}
use Rattle.dns_base.specs.Replaced.{other_than}
use Rattle.dns_base.specs.Header.{header_of}
use Rattle.dns_base.specs.Replies.{answer_header, error_by, with_copied, within_limit}
use Rattle.dns_base.specs.Sections.{Items, all_of, answers_of, authority_of, message_of, questions_of, reached, standing_additional, standing_answers, standing_authority}
use Rattle.dns_base.specs.Standing.{Standing}
use Rattle.dns_base.specs.Wire.{wire}
use Rattle.dns_message.specs.TypedData.{IsReadAs, ReadsBack}
use Rattle.dns_message.specs.declared.question.Question.{Question}
use Rattle.dns_message.specs.declared.header.Header.{Header}
use Rattle.dns_message.specs.declared.rdata.RecordData.TheVariants.{Opt as OptList}
use Rattle.dns_message.specs.declared.record.Record.{Record}
use Rattle.dns_opt.specs.Drafts.{with_opt, with_opt_record}
use Rattle.dns_opt.specs.OptRecords.{OptState, listed, opt_record, opt_record_among, opt_state, opt_state_of, zero_head}
use Rattle.dns_opt.specs.Reopened.{opt_among, opt_or_empty}
use Rattle.dns_service.specs.ErrorReply.{code_draft, error_begun, error_reply}
use Rattle.dns_service.specs.WithOption.{and_option, optioned}
use Rattle.dns_service.specs.LastOpt.{and_opt}
use Rattle.dns_service.specs.Copied.{copied, copied_item, copied_records, in_front, others_of, whole_list}
use Rattle.dns_base.specs.CopiedRecord.{plainly}
use Rattle.dns_route.specs.OwnReplies.{error_state, kept_whole}
use Rattle.dns_route.specs.Typed.{AreTyped, IsTypedMessage}
use Rattle.dns_route.specs.ReplyMessage.{begun, reply_message, reply_with_opt, with_reply_option}
use Rattle.dns_route.proofs.OwnLaws.{AreBare, error_records, options_empty}

-- ---- the copy of a message that was built of typed records

copied_section : (xs : List ResourceRecord) (items : List (Result Standing ParseError)) → AreTyped xs → AllZip IsReadAs xs items → copied_records items ≡ Ok xs
copied_section [] [] t h = refl
copied_section [] (y ∷ items) t h = absurd h
copied_section (x ∷ xs) [] t h = absurd h
copied_section (x ∷ xs) (Err e ∷ items) t h = absurd h.0
copied_section (x ∷ xs) (Ok s ∷ items) t h =
    let one : copied_item (Ok s) ≡ Ok x = ap plainly (h.0.1 t.0.0 t.0.1 t.0.2) ∙ ap (λ (r : ResourceRecord). Ok r) t.0.2 in
    ap (λ i. in_front i (copied_records items)) one ∙ ap (in_front (Ok x)) (copied_section xs items t.1 h.1)

copied_reached : (xs : List ResourceRecord) (end : Result ℕ ParseError) (i : Items Standing) → AreTyped xs → ReadsBack xs (reached end i) → copied_records (all_of i) ≡ Ok xs
copied_reached xs (Ok at) i t h = copied_section xs (all_of i) t h
copied_reached xs (Err e) i t h = absurd h

whole_mapped : (qs : List Question) → whole_list (map (λ (q : Question). Ok q) qs) ≡ Ok qs
whole_mapped [] = refl
whole_mapped (q ∷ qs) = ap (in_front (Ok q)) (whole_mapped qs)

-- questions after which a section is reached
questions_copied : (i : Items Question) (qs : List Question) (xs : List ResourceRecord) (j : Items Standing) → i.0 ≡ qs → ReadsBack xs (reached i.1 j) → whole_list (all_of i) ≡ Ok qs
questions_copied (ps, Ok end) qs xs j e h = whole_mapped ps ∙ ap (λ (l : List Question). Ok l) e
questions_copied (ps, Err x) qs xs j e h = absurd h

-- messages that are written are read again, and so are their typed records
pub record AreReadBack : Type 0 where
  pub same : (m : Msg) → IsMessage m → message_of (wire m) ≡ m
  pub answers : (m : Msg) → IsMessage m → ReadsBack m.answers (reached (questions_of (wire m)).1 (standing_answers (wire m)))
  pub authority : (m : Msg) → IsMessage m → ReadsBack m.authority (reached (answers_of (wire m)).1 (standing_authority (wire m)))
  pub additional : (m : Msg) → IsMessage m → ReadsBack m.additional (reached (authority_of (wire m)).1 (standing_additional (wire m)))

module _ (back : AreReadBack) where
  header_back : (m : Msg) → IsMessage m → header_of (wire m) ≡ m.header
  unfolding message_of
  header_back m h = ap (λ (x : Msg). x.header) (back.same m h)

  questions_back : (m : Msg) → IsMessage m → (questions_of (wire m)).0 ≡ m.questions
  unfolding message_of
  questions_back m h = ap (λ (x : Msg). x.questions) (back.same m h)

  pub copied_back : (m : Msg) → IsMessage m → AreTyped m.answers → AreTyped m.authority → AreTyped m.additional → copied (wire m) ≡ Ok (record m { additional = other_than 41 m.additional })
  unfolding copied
  copied_back m h a b c =
      let o = wire m in
      let qs = questions_copied (questions_of o) m.questions m.answers (standing_answers o) (questions_back m h) (back.answers m h) in
      let an = copied_reached m.answers (questions_of o).1 (standing_answers o) a (back.answers m h) in
      let ns = copied_reached m.authority (answers_of o).1 (standing_authority o) b (back.authority m h) in
      let ar = ap others_of (copied_reached m.additional (authority_of o).1 (standing_additional o) c (back.additional m h)) in
      rw (header_back m h, qs, an, ns, ar) refl

-- ---- error replies

module _ (f : Msg → List ResourceRecord) (bare : (b : Built) (q : Question) → f (with_question b q).message ≡ f b.message) (headed : (b : Built) (h : Header) → f (with_header b h).message ≡ f b.message) where
  -- a section that is empty before and after the questions
  section_copied : (b : Built) (qs : List Question) → f (with_copied b qs).0.message ≡ f b.message
  section_copied b [] = refl
  section_copied b (q ∷ qs) = elim (within_limit (with_question b q)) as (λ (c : Bool). f (if c then with_copied (with_question b q) qs else (b, false)).0.message ≡ f b.message) [ true ↦ section_copied (with_question b q) qs ∙ bare b q | false ↦ refl ]

  section_error : (c : Built × Bool) → f (error_by c).message ≡ f c.0.message
  section_error (b, true) = refl
  section_error (b, false) = headed b (record b.message.header { rcode = 2 })

  section_begun : (query : List ℕ) (code : ℕ) → f (error_begun query code).message ≡ f empty
  section_begun query code =
      let b : Built = record { message = empty; limit = 65535 } in
      let h : Header = answer_header b.message.header (header_of query) (code % 16) in
      section_error (with_copied (with_header b h) (questions_of query).0) ∙ (section_copied (with_header b h) (questions_of query).0 ∙ headed b h)

error_answers : (query : List ℕ) (code : ℕ) → (error_reply query code).answers ≡ []
error_answers query code =
    let b = error_begun query code in
    elim (within_limit (with_opt_record (code_draft b code) b)) as (λ (c : Bool). (if c then with_opt (code_draft b code) b else b).message.answers ≡ []) [
      | true ↦ section_begun (λ m. m.answers) (λ b q. refl) (λ b h. refl) query code
      | false ↦ section_begun (λ m. m.answers) (λ b q. refl) (λ b h. refl) query code
    ]

error_authority : (query : List ℕ) (code : ℕ) → (error_reply query code).authority ≡ []
error_authority query code =
    let b = error_begun query code in
    elim (within_limit (with_opt_record (code_draft b code) b)) as (λ (c : Bool). (if c then with_opt (code_draft b code) b else b).message.authority ≡ []) [
      | true ↦ section_begun (λ m. m.authority) (λ b q. refl) (λ b h. refl) query code
      | false ↦ section_begun (λ m. m.authority) (λ b q. refl) (λ b h. refl) query code
    ]

zero_typed : AreTyped (opt_record (opt_state zero_head []) ∷ [])
zero_typed =
    let r : Record = record { owner = []; class = 0; ttl = 0; rdata = OptList [] } in
    ((r, record { lawful = (rw options_empty refl, omega arith); names = tt }, refl), tt)

none_typed : (rs : List ResourceRecord) → rs ≡ [] → AreTyped rs
none_typed rs h = subst AreTyped (sym h) tt

bare_typed : (rs : List ResourceRecord) → AreBare rs → AreTyped rs
bare_typed rs (inl h) = subst AreTyped (sym h) tt
bare_typed rs (inr h) = subst AreTyped (sym h) zero_typed

bare_others : (rs : List ResourceRecord) → AreBare rs → other_than 41 rs ≡ []
bare_others rs (inl h) = ap (other_than 41) h
bare_others rs (inr h) = ap (other_than 41) h

-- records, and the OPT record among them as the only one
bare_again : (rs : List ResourceRecord) → AreBare rs → (m : Msg) → and_opt (record m { additional = other_than 41 rs }) (opt_among rs) ≡ record m { additional = rs }
bare_again rs (inl h) m = subst (λ (l : List ResourceRecord). and_opt (record m { additional = other_than 41 l }) (opt_among l) ≡ record m { additional = l }) (sym h) refl
bare_again rs (inr h) m =
    subst (λ (l : List ResourceRecord). and_opt (record m { additional = other_than 41 l }) (opt_among l) ≡ record m { additional = l }) (sym h) (rw options_empty refl)

begun_or : (x : Option OptState) → begun x ≡ opt_or_empty x
begun_or None = refl
begun_or (Some s) = refl

module _ (back : AreReadBack) (query : List ℕ) (code : ℕ) (l : code < 16) (h : IsMessage (error_reply query code)) where
  error_copied : copied (wire (error_reply query code)) ≡ Ok (record (error_reply query code) { additional = other_than 41 (error_reply query code).additional })
  error_copied =
      copied_back back (error_reply query code) h (none_typed _ (error_answers query code)) (none_typed _ (error_authority query code)) (bare_typed _ (error_records query code l))

  -- what is built of an error reply is that error reply
  pub error_built : reply_message (error_state query code) ≡ Ok (error_reply query code)
  error_built =
      ap (reply_with_opt (error_state query code).opt) error_copied ∙ ap (λ (m : Msg). Ok m) (bare_again (error_reply query code).additional (error_records query code l) (error_reply query code))

  -- and with an option, the error reply with that option
  pub explained_built : (c : ℕ) (d : List ℕ) → reply_message (with_reply_option c d (error_state query code)) ≡ Ok (optioned (error_reply query code) c d)
  explained_built c d =
      let m = error_reply query code in
      ap (reply_with_opt (with_reply_option c d (error_state query code)).opt) error_copied
      ∙ ap (λ (s : OptState). Ok (record m { additional = other_than 41 m.additional ++ opt_record (and_option s c d) ∷ [] })) (begun_or (opt_among m.additional))

-- ---- messages of one's own

others_step : (x : ResourceRecord) (xs : List ResourceRecord) (b : Bool) → (b || list_any (λ (r : ResourceRecord). nat_eq r.rtype 41) xs) ≡ false → (list_any (λ (r : ResourceRecord). nat_eq r.rtype 41) xs ≡ false → other_than 41 xs ≡ xs) → (if b then other_than 41 xs else x ∷ other_than 41 xs) ≡ x ∷ xs
others_step x xs true h ih = absurd (cc)
others_step x xs false h ih = ap (λ l. x ∷ l) (ih h)

all_others : (xs : List ResourceRecord) → list_any (λ (r : ResourceRecord). nat_eq r.rtype 41) xs ≡ false → other_than 41 xs ≡ xs
all_others [] h = refl
all_others (x ∷ xs) h = others_step x xs (nat_eq x.rtype 41) h (all_others xs)

among_step : (x : ResourceRecord) (xs : List ResourceRecord) (b : Bool) → (b || list_any (λ (r : ResourceRecord). nat_eq r.rtype 41) xs) ≡ false → (list_any (λ (r : ResourceRecord). nat_eq r.rtype 41) xs ≡ false → opt_record_among xs ≡ None) → (if b then listed x else opt_record_among xs) ≡ None
among_step x xs true h ih = absurd (cc)
among_step x xs false h ih = ih h

none_among : (xs : List ResourceRecord) → list_any (λ (r : ResourceRecord). nat_eq r.rtype 41) xs ≡ false → opt_record_among xs ≡ None
none_among [] h = refl
none_among (x ∷ xs) h = among_step x xs (nat_eq x.rtype 41) h (none_among xs)

module _ (back : AreReadBack) where
  -- what is built of a message of one's own is that message
  pub kept_built : (m : Msg) → IsMessage m → IsTypedMessage m → reply_message (kept_whole m) ≡ Ok m
  kept_built m h t =
      ap (reply_with_opt (opt_among m.additional)) (copied_back back m h t.answers t.authority t.additional)
      ∙ (ap (λ (s : Option OptState). Ok (and_opt (record m { additional = other_than 41 m.additional }) s)) (ap (option_map opt_state_of) (none_among m.additional t.bare))
      ∙ ap (λ (rs : List ResourceRecord). Ok (record m { additional = rs })) (all_others m.additional t.bare))
