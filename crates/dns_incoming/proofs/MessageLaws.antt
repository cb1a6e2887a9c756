-- Of a message that is written, the answers are taken.
use Rattle.std.proofs.Common.{◌≡◌, ℕ, Bool, true, List, [], ◌∷◌, map, Option, Some, None, Result, Ok, Err, refl, ap, sym, subst, ◌∙◌, arith, nat_eq}
use Rattle.std.specs.Prelude.{◌&&◌, if◌then◌else◌}
use Rattle.std.specs.List.{AllByRecursion, AllZip}
use Rattle.std.proofs.lemmas.Bool.Decides.{nat_tests}
use Rattle.dns_name.specs.declared.error.ParseError.{ParseError}
use Rattle.dns_base.specs.Header.{header_of}
use Rattle.dns_base.specs.Msg.{IsMessage, Msg, ResourceRecord}
use Rattle.dns_base.specs.Records.{record_of}
use Rattle.dns_base.specs.Sections.{message_of, questions_of, reached, standing_answers}
use Rattle.dns_base.specs.Standing.{Standing}
use Rattle.dns_base.specs.TypedData.{IsReadAs, ReadsBack}
use Rattle.dns_base.specs.Wire.{wire}
use Rattle.dns_message.specs.declared.header.Header.{Header}
use Rattle.dns_message.specs.declared.record.Record.{Record}
use Rattle.dns_zone.specs.Owned.{HasTypedData}
use Rattle.dns_incoming.specs.Incoming.{IncomingState, code_fault, header_fault, readable_record, taken_items, taken_message, taken_read, taken_section, taken_unless}
use Rattle.dns_incoming.specs.IncomingLaws.{IsAnswer, MessagesAreTaken, all_taken}
use Rattle.dns_incoming.specs.declared.status.TransferDefect.{TransferDefect}
use Rattle.dns_incoming.specs.declared.status.TransferDefect.TheVariants.{Code, Identifier}

eq_true : (a b : ℕ) → a ≡ b → nat_eq a b ≡ true
eq_true a b h = grind (arith, nat_tests)

both_true : (a b : Bool) → a ≡ true → b ≡ true → (a && b) ≡ true
both_true a b h g = rw (h, g) refl

-- ---- the header

headed : (m : Msg) (o : List ℕ) → message_of o ≡ m → header_of o ≡ m.header
unfolding message_of
headed m o e = ap (λ (x : Msg). x.header) e

no_fault : (id : ℕ) (h : Header) → h.id ≡ id → h.qr ≡ true → h.rcode ≡ 0 → header_fault id h ≡ None
no_fault id h i q c =
    ap (λ (b : Bool). if b then code_fault h else Some Identifier) (both_true (nat_eq h.id id) h.qr (eq_true h.id id i) q)
    ∙ ap (λ (b : Bool). if b then None else Some Code) (eq_true h.rcode 0 c)

-- ---- the answers

items_back : (rs : List Record) (items : List (Result Standing ParseError)) (s : IncomingState) → AllByRecursion HasTypedData rs → AllZip IsReadAs (map record_of rs) items → taken_items s items ≡ all_taken s rs
items_back [] [] s t h = refl
items_back [] (i ∷ is) s t h = absurd h
items_back (r ∷ rs) [] s t h = absurd h
items_back (r ∷ rs) (Err e ∷ is) s t h = absurd h.0
items_back (r ∷ rs) (Ok x ∷ is) s t h =
    ap (λ (y : Result Record ParseError). taken_items (taken_read s (readable_record y)) is) (h.0.1 r t.0 refl) ∙ items_back rs is (taken_read s (Some r)) t.1 h.1

section_back : (rs : List Record) (xs : List ResourceRecord) (got : Result (List (Result Standing ParseError)) ParseError) (s : IncomingState) → xs ≡ map record_of rs → AllByRecursion HasTypedData rs → ReadsBack xs got → taken_section s got ≡ all_taken s rs
section_back rs xs (Err e) s i t h = absurd h
section_back rs xs (Ok items) s i t h = items_back rs items s t (subst (λ (l : List ResourceRecord). AllZip IsReadAs l items) i h)

pub message_taken : (s : IncomingState) (m : Msg) (rs : List Record) → IsAnswer s m rs → message_of (wire m) ≡ m → ReadsBack m.answers (reached (questions_of (wire m)).1 (standing_answers (wire m))) → taken_message s (wire m) ≡ all_taken s rs
message_taken s m rs a e h =
    let k = headed m (wire m) e in
    ap (λ (f : Option TransferDefect). taken_unless f s (wire m)) (ap (header_fault s.id) k ∙ no_fault s.id m.header a.id a.response a.code)
    ∙ section_back rs m.answers (reached (questions_of (wire m)).1 (standing_answers (wire m))) s a.answers a.read h
