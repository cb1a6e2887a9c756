-- When questions, data and records are equal: names up to ASCII case (RFC 4343, section 3), and records without their TTL (RFC
-- 2136, section 1.1.1).
use Rattle.std.specs.Prelude.{ℕ, Bool, ◌==◌, ◌&&◌, List, [], ◌∷◌}
use Rattle.std.specs.Cmp.{IsEquivalence, and_equiv, on_equiv, nat_eq_equiv}
use Rattle.std.specs.Cmp.Lexicographic.{pointwise, lists_equiv}
use Rattle.dns_name.specs.Canonical.{same_name, same_name_equiv}
use Rattle.dns_message.specs.declared.question.Question.{Question}
use Rattle.dns_message.specs.declared.rdata.RecordData.{RecordData}
use Rattle.dns_message.specs.declared.rdata.RecordData.TheVariants.{A, Aaaa, Named, Soa, Minfo, Mx, Srv, Opt, Unknown}
use Rattle.dns_message.specs.declared.record.Record.{Record}

-- name, type and class
abbrev pub same_question : Question → Question → Bool
same_question a b = same_name a.qname b.qname && ((a.qtype == b.qtype) && (a.qclass == b.qclass))

-- what of data is compared: which variant it is, its numbers or octets, and its names
abbrev pub data_parts : RecordData → ℕ × List ℕ × List (List (List ℕ))
data_parts (A a) = (1, a, [])
data_parts (Aaaa a) = (2, a, [])
data_parts (Named t n) = (3, t ∷ [], n ∷ [])
data_parts (Soa m r s f t e n) = (4, s.0 ∷ f ∷ t ∷ e ∷ n ∷ [], m ∷ r ∷ [])
data_parts (Minfo a b) = (5, [], a ∷ b ∷ [])
data_parts (Mx p n) = (6, p ∷ [], n ∷ [])
data_parts (Srv p w o n) = (7, p ∷ w ∷ o ∷ [], n ∷ [])
data_parts (Opt o) = (8, o, [])
data_parts (Unknown t o) = (9, t ∷ o, [])

-- variant, numbers, octets and names are the same
abbrev pub same_data : RecordData → RecordData → Bool
same_data a b = ((data_parts a).0 == (data_parts b).0)
    && (pointwise ◌==◌ (data_parts a).1 (data_parts b).1 && pointwise same_name (data_parts a).2 (data_parts b).2)

-- owner, class, and type and data
abbrev pub same_record : Record → Record → Bool
same_record a b = same_name a.owner b.owner && ((a.class == b.class) && same_data a.rdata b.rdata)

pub same_question_equiv : IsEquivalence same_question
same_question_equiv = and_equiv (on_equiv (λ (q : Question). q.qname) same_name_equiv)
    (and_equiv (on_equiv (λ (q : Question). q.qtype) nat_eq_equiv) (on_equiv (λ (q : Question). q.qclass) nat_eq_equiv))

pub same_data_equiv : IsEquivalence same_data
same_data_equiv = and_equiv (on_equiv (λ (d : RecordData). (data_parts d).0) nat_eq_equiv)
    (and_equiv (on_equiv (λ (d : RecordData). (data_parts d).1) (lists_equiv nat_eq_equiv))
    (on_equiv (λ (d : RecordData). (data_parts d).2) (lists_equiv same_name_equiv)))

pub same_record_equiv : IsEquivalence same_record
same_record_equiv = and_equiv (on_equiv (λ (r : Record). r.owner) same_name_equiv)
    (and_equiv (on_equiv (λ (r : Record). r.class) nat_eq_equiv) (on_equiv (λ (r : Record). r.rdata) same_data_equiv))
