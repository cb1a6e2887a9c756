-- What is kept of a reply that was copied, and its marks.
use Rattle.std.proofs.Common.{◌≡◌, ℕ, ◌-◌, ◌≤◌, true, false, List, [], ◌∷◌, ◌++◌, map, length, Option, Some, None, Result, Ok, Err, refl, ap, sym, subst, ◌∙◌, arith, append_assoc, append-nil}
use Rattle.std.specs.Prelude.{nat_eq, if◌then◌else◌, flat_map}
use Rattle.std.proofs.lemmas.List.{map-append}
use Rattle.dns_name.specs.declared.error.ParseError.{ParseError}
use Rattle.dns_message.specs.declared.header.Header.{Header}
use Rattle.dns_message.specs.declared.question.Question.{Question}
use Rattle.dns_base.specs.Built.{Built}
use Rattle.dns_base.specs.Msg.{IsMessage, Msg, ResourceRecord}
use Rattle.dns_base.specs.Header.{header_of}
use Rattle.dns_base.specs.Replaced.{other_than}
use Rattle.dns_base.specs.Sections.{FourSections, Items, SameRecords, all_of, authority_of, message_of, questions_of, sections_by, sections_of, standing_additional, standing_answers, standing_authority}
use Rattle.dns_base.specs.Standing.{Standing}
use Rattle.dns_base.specs.Wire.{record_octets, wire}
use Rattle.dns_opt.specs.OptRecords.{OptState, opt_record}
use Rattle.dns_opt.specs.Reopened.{less_opts}
use Rattle.dns_service.specs.Copied.{copied, copied_item, copied_records, gathered, in_front, others_of, whole_list}
use Rattle.dns_service.specs.LastOpt.{and_opt}
use Rattle.dns_route.specs.ReplyMessage.{ReplyState, reply_message, reply_with_opt}
use Rattle.dns_route.specs.Typed.{AreTyped}
use Rattle.dns_cache.specs.Marks.{AreMarked, CopiesAsItself, HasMarks, IsKept, MarksOf, SectionsMarked, mark_of, marked_size, marked_ttls}
use Rattle.dns_cache.specs.Ttls.{counted_ttl, least_ttl, records_of, smallest}
use Rattle.dns_cache.specs.Aged.{aged}
use Rattle.dns_cache.specs.declared.marks.Mark.{Mark}
use Rattle.dns_cache.proofs.AgedLaws.{records_begin}
use Rattle.dns_cache.proofs.MarkLaws.{others_joined, size_of, ttls_of}
use Rattle.dns_cache.proofs.TypedLaws.{AreCopied, IsPlain, plain_aged, plain_copied}

-- ---- the marks of all sections

typed_others : (rs : List ResourceRecord) → AreTyped rs → AreTyped (other_than 41 rs)
typed_others [] t = tt
typed_others (r ∷ rs) t = elim (nat_eq r.rtype 41) as (λ b. AreTyped (if b then other_than 41 rs else r ∷ other_than 41 rs)) [
  | true ↦ typed_others rs t.1
  | false ↦ (t.0, typed_others rs t.1)
]

pub gathered_marks : (h : Header) (qs : Result (List Question) ParseError) (an ns ar : Result (List ResourceRecord) ParseError) (m1 m2 m3 : List Mark) → AreMarked true an [] m1 → AreMarked true ns m1 m2 → AreMarked false ar m2 m3 → MarksOf (gathered h qs an ns (others_of ar)) m3
gathered_marks h (Err e) an ns ar m1 m2 m3 a b c = tt
gathered_marks h (Ok qs) (Err e) ns ar m1 m2 m3 a b c = tt
gathered_marks h (Ok qs) (Ok an) (Err e) ar m1 m2 m3 a b c = tt
gathered_marks h (Ok qs) (Ok an) (Ok ns) (Err e) m1 m2 m3 a b c = tt
gathered_marks h (Ok qs) (Ok an) (Ok ns) (Ok ar) m1 m2 m3 a b c = record {
  answers = a.0;
  authority = b.0;
  additional = typed_others ar c.0;
  marked =
      c.1 ∙ (ap (λ (l : List Mark). l ++ map mark_of (other_than 41 ar)) (b.1 ∙ ap (λ (l : List Mark). l ++ map mark_of ns) a.1)
      ∙ (append_assoc (map mark_of an) (map mark_of ns) (map mark_of (other_than 41 ar))
      ∙ (ap (λ (l : List Mark). map mark_of an ++ l) (sym (map-append mark_of ns (other_than 41 ar))) ∙ sym (map-append mark_of an (ns ++ other_than 41 ar)))));
}

pub copied_marks : (o : List ℕ) (m1 m2 m3 : List Mark) → AreMarked true (copied_records (all_of (standing_answers o))) [] m1 → AreMarked true (copied_records (all_of (standing_authority o))) m1 m2 → AreMarked false (copied_records (all_of (standing_additional o))) m2 m3 → MarksOf (copied o) m3
unfolding copied
copied_marks o m1 m2 m3 a b c = gathered_marks (header_of o) (whole_list (all_of (questions_of o))) (copied_records (all_of (standing_answers o))) (copied_records (all_of (standing_authority o))) (copied_records (all_of (standing_additional o))) m1 m2 m3 a b c

-- ---- if a section isn't reached

refused_items : (xs : List Standing) (e : ParseError) → (x : ParseError) × (copied_records (map (λ (s : Standing). Ok s) xs ++ Err e ∷ []) ≡ Err x)
refused_items [] e = (e, refl)
refused_items (s ∷ xs) e =
    let more = refused_items xs e in
    step (copied_item (Ok s)) more.0 more.1
  where
    step : (item : Result ResourceRecord ParseError) (x : ParseError) → copied_records (map (λ (s : Standing). Ok s) xs ++ Err e ∷ []) ≡ Err x → (y : ParseError) × (in_front item (copied_records (map (λ (s : Standing). Ok s) xs ++ Err e ∷ [])) ≡ Err y)
    step (Ok r) x h = (x, ap (in_front (Ok r)) h)
    step (Err y) x h = (y, refl)

refused_section : (i : Items Standing) (e : ParseError) → i.1 ≡ Err e → (x : ParseError) × (copied_records (all_of i) ≡ Err x)
refused_section (xs, Ok end) e h = cc
refused_section (xs, Err x) e h = refused_items xs x

refused_gathered : (h : Header) (qs : Result (List Question) ParseError) (an ns ar : Result (List ResourceRecord) ParseError) (e : ParseError) (marks : List Mark) → ns ≡ Err e → MarksOf (gathered h qs an ns ar) marks
refused_gathered h (Err x) an ns ar e marks g = tt
refused_gathered h (Ok qs) (Err x) ns ar e marks g = tt
refused_gathered h (Ok qs) (Ok an) (Err x) ar e marks g = tt
refused_gathered h (Ok qs) (Ok an) (Ok ns) ar e marks g = cc

sections_refused : (o : List ℕ) (end : Result ℕ ParseError) (e : ParseError) → sections_by o end ≡ Err e → (x : ParseError) × (end ≡ Err x)
sections_refused o (Ok at) e h = cc
sections_refused o (Err x) e h = (x, refl)

pub refused_marks : (o : List ℕ) (e : ParseError) (marks : List Mark) → SameRecords (standing_authority o) (authority_of o) → sections_of o ≡ Err e → MarksOf (copied o) marks
unfolding copied
refused_marks o e marks same h =
    let x = sections_refused o (authority_of o).1 e h in
    let y = refused_section (standing_authority o) x.0 (same.end ∙ x.1) in
    refused_gathered (header_of o) (whole_list (all_of (questions_of o))) (copied_records (all_of (standing_answers o))) (copied_records (all_of (standing_authority o))) (others_of (copied_records (all_of (standing_additional o)))) y.0 marks y.1

-- the records of the sections that are reached
pub sections_given : (o : List ℕ) (end : Result ℕ ParseError) (s : FourSections) → sections_by o end ≡ Ok s → (s.1 ≡ all_of (standing_answers o)) × (s.2 ≡ all_of (standing_authority o)) × (s.3 ≡ all_of (standing_additional o))
sections_given o (Ok at) s h = (cc, cc, cc)
sections_given o (Err e) s h = cc

-- ---- a message without OPT records

others_twice : (rs : List ResourceRecord) → other_than 41 (other_than 41 rs) ≡ other_than 41 rs
others_twice [] = refl
others_twice (r ∷ rs) = (elim (nat_eq r.rtype 41) as (λ b. nat_eq r.rtype 41 ≡ b → other_than 41 (if b then other_than 41 rs else r ∷ other_than 41 rs) ≡ (if b then other_than 41 rs else r ∷ other_than 41 rs)) [
  | true ↦ λ t. others_twice rs
  | false ↦ λ t. ap (λ b. if b then other_than 41 (other_than 41 rs) else r ∷ other_than 41 (other_than 41 rs)) t ∙ ap (λ l. r ∷ l) (others_twice rs)
]) refl

bare_gathered : (h : Header) (qs : Result (List Question) ParseError) (an ns ar : Result (List ResourceRecord) ParseError) (c : Msg) → gathered h qs an ns (others_of ar) ≡ Ok c → other_than 41 c.additional ≡ c.additional
bare_gathered h (Err e) an ns ar c g = cc
bare_gathered h (Ok qs) (Err e) ns ar c g = cc
bare_gathered h (Ok qs) (Ok an) (Err e) ar c g = cc
bare_gathered h (Ok qs) (Ok an) (Ok ns) (Err e) c g = cc
bare_gathered h (Ok qs) (Ok an) (Ok ns) (Ok ar) c g =
    let e : record { header = h; questions = qs; answers = an; authority = ns; additional = other_than 41 ar } ≡ c = cc in
    subst (λ (m : Msg). other_than 41 m.additional ≡ m.additional) e (others_twice ar)

pub bare_copied : (o : List ℕ) (c : Msg) → copied o ≡ Ok c → other_than 41 c.additional ≡ c.additional
unfolding copied
bare_copied o c h = bare_gathered (header_of o) (whole_list (all_of (questions_of o))) (copied_records (all_of (standing_answers o))) (copied_records (all_of (standing_authority o))) (copied_records (all_of (standing_additional o))) c h

-- the copy of a reply's octets, which is a built message except for its OPT record
pub record IsCopy (r : ReplyState) (b : Msg) : Type 0 where
  pub copy : Msg
  pub copies : copied r.octets ≡ Ok copy
  pub message : b ≡ and_opt copy r.opt
  pub bare : other_than 41 copy.additional ≡ copy.additional

copy_by : (r : ReplyState) (b : Msg) (x : Result Msg ParseError) → copied r.octets ≡ x → reply_with_opt r.opt x ≡ Ok b → IsCopy r b
copy_by r b (Ok c) g h = record { copy = c; copies = g; message = (cc); bare = bare_copied r.octets c g }
copy_by r b (Err e) g h = cc

pub is_copy : (r : ReplyState) (b : Msg) → reply_message r ≡ Ok b → IsCopy r b
is_copy r b h = copy_by r b (copied r.octets) refl h

pub less_by : (c : Msg) (opt : Option OptState) → other_than 41 c.additional ≡ c.additional → record (and_opt c opt) { additional = other_than 41 (and_opt c opt).additional } ≡ c
less_by c None h = ap (λ (l : List ResourceRecord). record c { additional = l }) h
less_by c (Some s) h = ap (λ (l : List ResourceRecord). record c { additional = l }) (others_joined c.additional (opt_record s ∷ []) ∙ (ap (λ (l : List ResourceRecord). l ++ []) h ∙ append-nil c.additional))

-- what is built of a reply, without its OPT record, is that copy
pub less_is_copy : (r : ReplyState) (b : Built) (k : IsCopy r b.message) → (less_opts b).message ≡ k.copy
less_is_copy r b k = ap (λ (m : Msg). record m { additional = other_than 41 m.additional }) k.message ∙ less_by k.copy r.opt k.bare

-- ---- what is kept

opts_apart : (c : Msg) (opt : Option OptState) → other_than 41 (records_of (and_opt c opt)) ≡ other_than 41 (records_of c)
opts_apart c None = refl
opts_apart c (Some s) =
    let one = opt_record s ∷ [] in
    let a : records_of (and_opt c (Some s)) ≡ records_of c ++ one = ap (λ l. c.answers ++ l) (sym (append_assoc c.authority c.additional one)) ∙ sym (append_assoc c.answers (c.authority ++ c.additional) one) in
    ap (other_than 41) a ∙ (others_joined (records_of c) one ∙ append-nil (other_than 41 (records_of c)))

pub least_is : (c : Msg) (marks : List Mark) (opt : Option OptState) → marks ≡ map mark_of (records_of c) → smallest (marked_ttls marks) ≡ least_ttl (and_opt c opt)
least_is c marks opt h =
    ap (λ l. smallest (marked_ttls l)) h ∙ (ap smallest (ttls_of (records_of c)) ∙ ap (λ l. smallest (map counted_ttl l)) (sym (opts_apart c opt)))

pub kept_made : AreCopied → ((m : Msg) → IsMessage m → message_of (wire m) ≡ m) → (c : Msg) (marks : List Mark) → IsMessage c → HasMarks c marks → other_than 41 c.additional ≡ c.additional → length (wire c) ≤ 65535 → IsKept (wire c) (length (wire c) - marked_size marks) marks
kept_made law back c marks h k bare short =
    let e : c ≡ message_of (wire c) = sym (back c h) in
    let plain : IsPlain c = record { answers = k.answers; authority = k.authority; additional = k.additional; bare = bare } in
    let n : marked_size marks ≡ length (flat_map record_octets (records_of c)) = ap marked_size k.marked ∙ size_of (records_of c) in
    record {
      lawful = subst IsMessage e h;
      whole = ap wire e;
      short = short;
      within = omega arith;
      begins = records_begin c (marked_size marks) n ∙ ap (λ (m : Msg). flat_map record_octets (records_of m)) e;
      marked = k.marked ∙ ap (λ (m : Msg). map mark_of (records_of m)) e;
      copies = subst (λ (m : Msg). (request : List ℕ) (age : ℕ) (opt : Option OptState) → CopiesAsItself (aged m request age) opt) e
          (λ request age opt l i. plain_copied law (aged c request age) opt (plain_aged c request age plain) l i);
    }

marks_by : (x : Result Msg ParseError) (c : Msg) (marks : List Mark) → x ≡ Ok c → MarksOf x marks → HasMarks c marks
marks_by x c marks h m = subst (λ (y : Result Msg ParseError). MarksOf y marks) h m

module _ (r : ReplyState) (b : Built) (marks : List Mark) (h : reply_message r ≡ Ok b.message) (m : MarksOf (copied r.octets) marks) where
  copy : IsCopy r b.message
  copy = is_copy r b.message h

  has : HasMarks copy.copy marks
  has = marks_by (copied r.octets) copy.copy marks copy.copies m

  -- the least TTL of marks is that of the message that is built
  pub least_built : smallest (marked_ttls marks) ≡ least_ttl b.message
  least_built = least_is copy.copy marks r.opt has.marked ∙ ap least_ttl (sym copy.message)

  module _ (back : (m : Msg) → IsMessage m → message_of (wire m) ≡ m) (o : List ℕ) (e : o ≡ wire (less_opts b).message) (l : IsMessage (less_opts b).message) where
    -- its octets without the OPT record, and the OPT record, are that message
    pub message_built : and_opt (message_of o) r.opt ≡ b.message
    message_built =
        let a : message_of o ≡ copy.copy = ap message_of e ∙ (back (less_opts b).message l ∙ less_is_copy r b copy) in
        ap (λ (x : Msg). and_opt x r.opt) a ∙ sym copy.message

    pub octets_kept : AreCopied → length o ≤ 65535 → IsKept o (length o - marked_size marks) marks
    octets_kept law s =
        let f : o ≡ wire copy.copy = e ∙ ap wire (less_is_copy r b copy) in
        let g : length (wire copy.copy) ≤ 65535 = subst (λ (x : List ℕ). length x ≤ 65535) f s in
        subst (λ (x : List ℕ). IsKept x (length x - marked_size marks) marks) (sym f) (kept_made law back copy.copy marks (subst IsMessage (less_is_copy r b copy) l) has copy.bare g)

-- the marks of the sections that are given
pub sections_marked : (o : List ℕ) (s : FourSections) (marks : List Mark) → sections_of o ≡ Ok s → SectionsMarked (copied_records s.1) (copied_records s.2) (copied_records s.3) marks → MarksOf (copied o) marks
sections_marked o s marks h m =
    let g = sections_given o (authority_of o).1 s h in
    copied_marks o m.0 m.1 marks
    (subst (λ (i : List (Result Standing ParseError)). AreMarked true (copied_records i) [] m.0) g.0 m.2)
    (subst (λ (i : List (Result Standing ParseError)). AreMarked true (copied_records i) m.0 m.1) g.1 m.3)
    (subst (λ (i : List (Result Standing ParseError)). AreMarked false (copied_records i) m.1 marks) g.2 m.4)
