-- A request of one question and no records is sent as it is written.
use Rattle.std.proofs.Common.{◌≡◌, ℕ, ◌≤◌, Bool, true, false, List, [], ◌∷◌, ◌++◌, length, Option, Some, None, Result, Ok, Err, refl, ap, sym, ◌∙◌, arith, append-nil, length-append}
use Rattle.std.specs.Prelude.{is_some, nat_eq, nat_le, if◌then◌else◌}
use Rattle.std.specs.Cmp.{first_so, second_so}
use Rattle.std.proofs.lemmas.Bool.{le-leb}
use borrow.Author.Tests.{eqb-true}
use Rattle.dns_name.specs.Labels.{spell}
use Rattle.dns_name.specs.Place.{Read, two}
use Rattle.dns_message.specs.Read.{question_at}
use Rattle.dns_message.specs.Standing.{standing_at, record_at}
use Rattle.dns_message.specs.declared.header.Header.{Header}
use Rattle.dns_message.specs.declared.question.Question.{Question}
use Rattle.dns_base.specs.Header.{header_octets, header_of}
use Rattle.dns_base.specs.Msg.{HasName}
use Rattle.dns_base.specs.Sections.{Items, all_of, answers_of, authority_of, by_item, counts_of, field, first_of, items_behind, items_from, questions_of, reached, standing_additional, standing_answers, standing_authority}
use Rattle.dns_base.specs.Wire.{question_octets, wire}
use Rattle.dns_opt.specs.OptRecords.{OptState, opt_in, opt_of}
use Rattle.dns_name.specs.declared.error.ParseError.{ParseError}
use Rattle.dns_service.specs.Asked.{asked_of, asked_opt, has_item}
use Rattle.dns_service.specs.OptItems.{items_reached}
use Rattle.dns_service.specs.Copied.{copied, copied_records, gathered, others_of, whole_list}
use Rattle.dns_route.specs.RequestMessage.{request_with}
use Rattle.dns_cache.specs.Keys.{AsksByName}
use Rattle.dns_fronts.specs.Layered.{AsksAlone, asks_alone, lone_question, read_sent, sendable}

one_item : (one : ℕ → Read Question) (at : ℕ) (q : Question) → first_of (items_from one 1 at).0 ≡ Some q → (end : ℕ) × (items_from one 1 at ≡ (q ∷ [], Ok end))
one_item one at q h = by_read (one at) h
  where
    by_read : (x : Read Question) → first_of (by_item (items_from one 0) x).0 ≡ Some q → (end : ℕ) × (by_item (items_from one 0) x ≡ (q ∷ [], Ok end))
    by_read (Ok (p, end)) g = let e : p ≡ q = cc in (end, λ i. (e i ∷ [], Ok end))
    by_read (Err e) g = cc

one_question : (o : List ℕ) (q : Question) → field 4 o ≡ 1 → first_of (questions_of o).0 ≡ Some q → (end : ℕ) × (questions_of o ≡ (q ∷ [], Ok end))
unfolding questions_of
one_question o q n h =
    let e : items_from (question_at o) (field 4 o) 12 ≡ items_from (question_at o) 1 12 = ap (λ k. items_from (question_at o) k 12) n in
    let f = one_item (question_at o) 12 q (ap (λ (i : Items Question). first_of i.0) (sym e) ∙ h) in
    (f.0, e ∙ f.1)

module _ (o : List ℕ) (q : Question) (end : ℕ) (asked : questions_of o ≡ (q ∷ [], Ok end)) (an : field 6 o ≡ 0) (ns : field 8 o ≡ 0) (ar : field 10 o ≡ 0) where
  no_answers : answers_of o ≡ ([], Ok end)
  unfolding answers_of
  no_answers = λ i. items_behind (record_at o) (an i) (asked i).1

  no_authority : authority_of o ≡ ([], Ok end)
  unfolding authority_of
  no_authority = λ i. items_behind (record_at o) (ns i) (no_answers i).1

  standing_none : standing_answers o ≡ ([], Ok end)
  standing_none = λ i. items_behind (standing_at o) (an i) (asked i).1

  authority_none : standing_authority o ≡ ([], Ok end)
  authority_none = λ i. items_behind (standing_at o) (ns i) (no_answers i).1

  additional_none : standing_additional o ≡ ([], Ok end)
  additional_none = λ i. items_behind (standing_at o) (ar i) (no_authority i).1

  copied_alone : copied o ≡ Ok (lone_question (header_of o) q)
  unfolding copied
  copied_alone = λ i. gathered (header_of o) (whole_list (all_of (asked i))) (copied_records (all_of (standing_none i))) (copied_records (all_of (authority_none i))) (others_of (copied_records (all_of (additional_none i))))

  no_opt : opt_of o ≡ None
  no_opt = λ i. opt_in (reached (no_authority i).1 (additional_none i))

-- a message that states no additional records
none_behind : (o : List ℕ) (end : Result ℕ ParseError) → opt_in (reached end (items_behind (standing_at o) 0 end)) ≡ None
none_behind o (Ok at) = refl
none_behind o (Err e) = refl

pub no_record : (o : List ℕ) → field 10 o ≡ 0 → opt_of o ≡ None
no_record o h = ap (λ (n : ℕ). opt_in (reached (authority_of o).1 (items_behind (standing_at o) n (authority_of o).1))) h ∙ none_behind o (authority_of o).1

no_items : (o : List ℕ) (end : Result ℕ ParseError) → items_reached (reached end (items_behind (standing_at o) 0 end)) ≡ []
no_items o (Ok at) = refl
no_items o (Err e) = refl

pub no_item : (o : List ℕ) → field 10 o ≡ 0 → has_item (asked_of o).opt ≡ false
no_item o h =
    ap (λ (n : ℕ). has_item (asked_opt (items_reached (reached (authority_of o).1 (items_behind (standing_at o) n (authority_of o).1))))) h
    ∙ ap (λ (items : List (Option OptState)). has_item (asked_opt items)) (no_items o (authority_of o).1)

wire_alone : (h : Header) (q : Question) → wire (lone_question h q) ≡ header_octets h ++ (0 ∷ 1 ∷ 0 ∷ 0 ∷ 0 ∷ 0 ∷ 0 ∷ 0 ∷ question_octets q)
unfolding wire
wire_alone h q = ap (λ (l : List ℕ). header_octets h ++ (0 ∷ 1 ∷ 0 ∷ 0 ∷ 0 ∷ 0 ∷ 0 ∷ 0 ∷ l)) (append-nil (question_octets q ++ []) ∙ append-nil (question_octets q))

-- a message of one question is what is written so
pub lone_wire : (h : Header) (q : Question) (o : List ℕ) → o ≡ (header_octets h ++ (0 ∷ 1 ∷ 0 ∷ 0 ∷ 0 ∷ 0 ∷ 0 ∷ 0 ∷ [])) ++ question_octets q → o ≡ wire (lone_question h q)
lone_wire h q o e = e ∙ sym (wire_alone h q)

short_alone : (h : Header) (q : Question) → HasName q → length (wire (lone_question h q)) ≤ 65535
short_alone h q n =
    let a = ap length (wire_alone h q) in
    let b = length-append (spell q.qname) (two q.qtype ++ two q.qclass) in
    omega (arith, a, b, n.room)

-- it is sent for a request of one question and no records
pub sent_alone : (o : List ℕ) (q : Question) → AsksAlone o q → HasName q → sendable o ≡ Some (wire (lone_question (header_of o) q))
sent_alone o q a n =
    let b = second_so (nat_eq (field 4 o) 1) _ a.0 in
    let c = second_so (nat_eq (field 6 o) 0) _ b in
    let qd : field 4 o ≡ 1 = eqb-true (field 4 o) 1 (first_so (nat_eq (field 4 o) 1) _ a.0) in
    let an : field 6 o ≡ 0 = eqb-true (field 6 o) 0 (first_so (nat_eq (field 6 o) 0) _ b) in
    let ns : field 8 o ≡ 0 = eqb-true (field 8 o) 0 (first_so (nat_eq (field 8 o) 0) _ c) in
    let ar : field 10 o ≡ 0 = eqb-true (field 10 o) 0 (second_so (nat_eq (field 8 o) 0) _ c) in
    let e = one_question o q qd a.1 in
    let m : List ℕ = wire (lone_question (header_of o) q) in
    let read : sendable o ≡ (if nat_le (length m) 65535 then Some m else None) = λ i. read_sent (request_with (no_opt o q e.0 e.1 an ns ar i) (copied_alone o q e.0 e.1 an ns ar i)) in
    read ∙ ap (λ (b : Bool). if b then Some m else None) (le-leb (length m) 65535 (short_alone (header_of o) q n))

pub lone_sent : (o : List ℕ) → asks_alone (counts_of o) ≡ true → AsksByName o → is_some (sendable o) ≡ true
lone_sent o a n = ap (λ (m : Option (List ℕ)). is_some m) (sent_alone o n.0 (a, n.1) n.2)
