-- What a built message is read to have.
use Rattle.std.proofs.Common.{◌≡◌, ℕ, List, [], ◌∷◌, map, Result, Ok, Err, refl, ap, sym, subst, ◌∙◌}
use Rattle.dns_name.specs.declared.error.ParseError.{ParseError}
use Rattle.dns_message.specs.declared.header.HeaderCounts.{HeaderCounts}
use Rattle.dns_message.specs.declared.question.Question.{Question}
use Rattle.dns_base.specs.declared.draft.Section.TheVariants.{Additional}
use Rattle.dns_base.specs.Msg.{Msg, ResourceRecord, IsMessage, item_counts}
use Rattle.dns_base.specs.Standing.{Standing, standing_at}
use Rattle.dns_base.specs.Wire.{wire}
use Rattle.dns_base.specs.Sections.{Items, all_of, field, items_behind, items_from, questions_of, standing_additional, to_come}
use Rattle.dns_base.specs.Draft.{start_of}
use Rattle.dns_base.specs.Readers.{AreReadable, readable_items, resources}
use Rattle.dns_base.proofs.Copied.{readable_all}
use Rattle.dns_base.proofs.Pushed.{counts_are}
use Rattle.dns_message.proofs.Coming.{all_come, same_additional}
use Rattle.dns_message.proofs.Written.{additional_written, questions_written}

all_readable : {A : Type 0} (xs : List A) → AreReadable (map Ok xs)
all_readable [] = tt
all_readable (x ∷ xs) = all_readable xs

-- if a section ends, no item of it is a refusal
ended_readable : {A : Type 0} (i : Items A) (end : ℕ) → i.1 ≡ Ok end → AreReadable (all_of i)
ended_readable (xs, Ok e) end h = all_readable xs
ended_readable (xs, Err e) end h = absurd (cc)

pub questions_read : (m : Msg) (o : List ℕ) (items : List (Result Question ParseError)) → IsMessage m → o ≡ wire m → items ≡ all_of (questions_of o) →
    (items ≡ all_of (questions_of (wire m))) × AreReadable items × (readable_items items ≡ m.questions)
questions_read m o items n h g =
    let q = questions_written m n in
    let e : items ≡ all_of (questions_of (wire m)) = g ∙ ap (λ x. all_of (questions_of x)) h in (
      e,
      subst (λ (x : List (Result Question ParseError)). AreReadable x) (sym e) (ended_readable (questions_of (wire m)) _ (ap (λ (i : Items Question). i.1) q)),
      ap (λ (x : List (Result Question ParseError)). readable_items x) e ∙ (readable_all (questions_of (wire m)) ∙ ap (λ (i : Items Question). i.0) q),
    )

-- the additional records from the place where they begin
additional_from : (m : Msg) (at : ℕ) → start_of Additional (wire m) ≡ Ok at → to_come (standing_at (wire m)) (item_counts m).arcount at ≡ all_of (standing_additional (wire m))
additional_from m at s =
    let o = wire m in
    let many : field 10 o ≡ (item_counts m).arcount = ap (λ (c : HeaderCounts). c.arcount) (counts_are m o refl) in
    let here : items_from (standing_at o) (item_counts m).arcount at ≡ standing_additional o =
    ap (λ (n : ℕ). items_from (standing_at o) n at) (sym many) ∙ ap (λ (x : Result ℕ ParseError). items_behind (standing_at o) (field 10 o) x) (sym s) in
    all_come (standing_at o) (item_counts m).arcount at ∙ ap (λ (i : Items Standing). all_of i) here

abbrev resource_of : Standing → ResourceRecord
resource_of s = s.resource

pub additional_read : (m : Msg) (o : List ℕ) (items : List (Result Standing ParseError)) (counts : HeaderCounts) (at : ℕ) → IsMessage m → o ≡ wire m → start_of Additional (wire m) ≡ Ok at → counts ≡ item_counts m →
    items ≡ to_come (standing_at o) counts.arcount at →
    (items ≡ all_of (standing_additional (wire m))) × AreReadable items × (resources items ≡ m.additional)
additional_read m o items counts at n h s k g =
    let all = standing_additional (wire m) in
    let same = same_additional (wire m) in
    let a = additional_written m n in
    let e : items ≡ all_of all = g ∙ (ap (λ (x : List ℕ). to_come (standing_at x) counts.arcount at) h ∙ (ap (λ (c : HeaderCounts). to_come (standing_at (wire m)) c.arcount at) k ∙ additional_from m at s)) in (
      e,
      subst (λ (x : List (Result Standing ParseError)). AreReadable x) (sym e) (ended_readable all _ (same.end ∙ ap (λ (i : Items ResourceRecord). i.1) a)),
      ap resources e ∙ (ap (map resource_of) (readable_all all) ∙ (same.items ∙ ap (λ (i : Items ResourceRecord). i.0) a)),
    )
