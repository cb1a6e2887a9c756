-- Records that are written read as these records.
use Rattle.std.proofs.Common.{◌≡◌, ℕ, ◌+◌, ◌-◌, ◌*◌, ◌/◌, ◌%◌, ◌^◌, ◌≤◌, ◌<◌, List, [], ◌∷◌, ◌++◌, length, take, drop, true, false, Some, None, Ok, Err, refl, ap, sym, ◌∙◌, arith, rules, append-nil, append_assoc, length-append}
use Rattle.std.specs.Prelude.{Bool, ◌&&◌, ◌||◌, not, map, codes, decimal, nat_eq, nat_lt, nat_le, slice_index, if◌then◌else◌}
use Rattle.std.specs.Char.{is_ascii_digit, to_ascii_lowercase}
use Rattle.std.specs.Int.{is_in_range}
use Rattle.std.specs.List.{list_all, AllByRecursion}
use Rattle.std.specs.Str.{bytes_eq}
use Rattle.std.proofs.lemmas.Bool.{and_parts, false_from_ne_true, lt-ltb, le-leb}
use Rattle.std.proofs.lemmas.Bool.Decides.{nat_tests}
use Rattle.std.proofs.lemmas.Fmt.{decimal_nonempty, digits_decimal, digits_value-decimal}
use Rattle.std.proofs.lemmas.Slice.Eq.{bytes_eq-Decides}
use Rattle.std.proofs.lemmas.Str.Parse.{IsNumeralModel, numerals_by_fold}
use Rattle.std.proofs.lemmas.List.Elements.{All-weaker}
use Rattle.std.proofs.lemmas.List.Sums.{list_all-from_AllPass}
use Rattle.hex.specs.Hex.{IsBytes, decode_of, encode_lower, is_hex_digit, lower_digits}
use Rattle.hex.proofs.HexLemmas.{decode_of-encode_lower, decode_of-ok, length-encode_with}
use Rattle.dns_name.specs.Labels.{AreLabels, IsName}
use Rattle.dns_message.specs.Records.{data_octets, data_type}
use Rattle.dns_message.specs.Standing.{data_alone, data_at}
use Rattle.dns_message.specs.declared.rdata.RecordData.{RecordData}
use Rattle.dns_message.specs.declared.record.Record.{Record}
use Rattle.dns_message.proofs.TypedWritten.{data_written}
use Rattle.dns_entries.specs.Reading.{LineRead, ◌>>=◌}
use Rattle.dns_entries.specs.Entries.{after_octet, scan_begins, ends_word}
use Rattle.dns_presentation.specs.Fields.{data_of, generic, hex_words}
use Rattle.dns_zone_file.specs.Lines.{HoldOctets, IsWord, goes_on, read_behind, word_on, words_on}
use Rattle.dns_presentation.specs.Names.{name_in, name_of}
use Rattle.dns_presentation.specs.Types.{class_of, is_meta, spells, type_of}
use Rattle.dns_word_values.specs.Values.{decimal_after, number_below, period}
use Rattle.dns_record_text.specs.RecordText.{absolute_text, bare_word, class_word, escaped_label, escaped_labels, escaped_octet, name_word, number_word, resource_text, resource_words, stands, type_word, value_words, zone_text}
use Rattle.dns_zone_file.specs.ZoneRecords.{IsZoneRecord}
use Rattle.dns_zone_file.specs.ZoneFile.{ZoneDraft, draft_begun, head, owned, entry_record, internet_record, steps, shaped_data, after_entry, after_record, zone_file}
use Rattle.dns_entries.specs.declared.entry.Word.{Word}
use Rattle.dns_zone_file.proofs.DataBack.{Reads, is_name_word, name_value, reads}
use Rattle.dns_zone_file.proofs.NumbersBack.{begins_so, decimal_word, digits_no_class, own, period_back, word_of}
use Rattle.dns_zone_file.proofs.Scanned.{line_is_entry}

-- ---- what stands before a type

head_back : (line ttl : ℕ) (ws : List Word) → ttl < 4294967296 → head (word_on line (number_word ttl) ∷ word_on line (bare_word (codes "IN")) ∷ ws) ≡ Ok (Some ttl, ws)
unfolding head
head_back line ttl ws h =
    let digits = digits_decimal own ttl (omega arith) in
    let some = decimal_nonempty ttl (omega arith) in
    let first = begins_so (decimal ttl) digits some in
    rw (digits_no_class (decimal ttl) digits some, first, period_back ttl h) refl

-- ---- data of its octets

bytes_same : (o : List ℕ) → bytes_eq o o ≡ true
bytes_same o = (bytes_eq-Decides o o).1 refl

-- the record that a record's parts make
abbrev remade : Record → Record
remade r = record { owner = r.owner; class = 1; ttl = r.ttl; rdata = r.rdata }

made : (r : Record) → r.class ≡ 1 → remade r ≡ r
made r h = ap (λ (c : ℕ). let x : Record = record { owner = r.owner; class = c; ttl = r.ttl; rdata = r.rdata } in x) (sym h)

shaped_back : (at : ℕ) (r : Record) → IsZoneRecord r → shaped_data at (data_type r.rdata) (data_octets r.rdata) ≡ Ok r.rdata
shaped_back at r h =
    let o : List ℕ = data_octets r.rdata in
    let n : length o ≡ 0 + length o = omega arith in
    let read : data_alone (data_type r.rdata) o ≡ Ok r.rdata = ap (λ (k : ℕ). data_at (data_type r.rdata) o k 0) n ∙ data_written r.rdata o [] 0 h.typed (sym (append-nil o)) (omega arith) in
    rw (read, bytes_same o) refl

-- ---- an entry

data_back : (r : Record) → IsZoneRecord r → Reads r.rdata
data_back r h = reads r.rdata h.typed h.rtype h.no_meta h.few h.bytes

-- the class IN by its name
class_named : (c : ℕ) → c ≡ 1 → class_word c ≡ codes "IN"
unfolding class_word
class_named c h = ap class_word h

record_back : (d : ZoneDraft) (line : ℕ) (r : Record) → IsZoneRecord r → entry_record d r.owner line (words_on line (resource_words r)) ≡ Ok r
unfolding entry_record
record_back d line r h =
    let back = data_back r h in
    rw (
      class_named r.class h.class,
      head_back line r.ttl (words_on line (bare_word (type_word r.rdata) ∷ value_words r.rdata)) h.ttl,
      back.rtype,
      back.values d.origin line line,
      le-leb (length (data_octets r.rdata)) 65535 h.few,
      shaped_back line r h,
    )
    (ap (λ y. Ok y) (made r h.class))

first_of_text : (b : ℕ) (more : List ℕ) → nat_eq (slice_index (escaped_octet b ++ more) 0) 36 ≡ false
first_of_text b more =
    elim (stands b) as (λ q. stands b ≡ q → nat_eq (slice_index ((if q then b ∷ [] else 92 ∷ (48 + b / 100) ∷ (48 + b / 10 % 10) ∷ (48 + b % 10) ∷ []) ++ more) 0) 36 ≡ false)
    [ true ↦ λ q. grind (arith, nat_tests) | false ↦ λ q. refl ] refl

no_directive : (ls : List (List ℕ)) → AreLabels ls → nat_eq (slice_index (absolute_text ls) 0) 36 ≡ false
no_directive [] h = refl
no_directive ([] ∷ ls) h = absurd (omega (arith, h.0))
no_directive ((b ∷ l) ∷ ls) h =
    ap (λ u. nat_eq (slice_index u 0) 36) (append_assoc (escaped_octet b) (escaped_label l) (46 ∷ escaped_labels ls)) ∙ first_of_text b (escaped_label l ++ (46 ∷ escaped_labels ls))

entry_back : (d : ZoneDraft) (line : ℕ) (r : Record) → IsZoneRecord r → after_entry d line false (words_on line (name_word r.owner ∷ resource_words r)) ≡ Ok (after_record d r.owner r)
entry_back d line r h =
    rw (no_directive r.owner h.owner.labels, name_value d.origin r.owner line h.owner h.octets, record_back d line r h) refl

-- ---- a line

are_words : (r : Record) → IsZoneRecord r → AllByRecursion IsWord (name_word r.owner ∷ resource_words r)
are_words r h =
    let back = data_back r h in
    let class : IsWord (bare_word (class_word r.class)) = rw (class_named r.class h.class) (word_of (codes "IN") (omega arith) refl) in
    (is_name_word r.owner h.owner h.octets, (decimal_word r.ttl (omega (arith, h.ttl)), (class, (back.word, back.words))))

record_line : (r : Record) (t : List ℕ) (line : ℕ) (d : ZoneDraft) → IsZoneRecord r → steps (scan_begins line) d (resource_text r ++ t) ≡ steps (scan_begins (line + 1)) (after_record d r.owner r) t
record_line r t line d h =
    line_is_entry (name_word r.owner) (resource_words r) t line d (are_words r h) ∙ ap (λ e. read_behind e line t) (entry_back d line r h)

-- ---- records

record ReadBack (rs : List Record) (line : ℕ) (d : ZoneDraft) : Type 0 where
  behind : ℕ
  draft : ZoneDraft
  reads : steps (scan_begins line) d (zone_text rs) ≡ Ok (scan_begins behind, draft)
  records : draft.records ≡ d.records ++ rs

read_back : (rs : List Record) (line : ℕ) (d : ZoneDraft) → AllByRecursion IsZoneRecord rs → ReadBack rs line d
read_back [] line d h = record { behind = line; draft = d; reads = refl; records = sym (append-nil d.records) }
read_back (r ∷ rs) line d h =
    let next = read_back rs (line + 1) (after_record d r.owner r) h.1 in
    record {
      behind = next.behind;
      draft = next.draft;
      reads = record_line r (zone_text rs) line d h.0 ∙ next.reads;
      records = next.records ∙ append_assoc d.records (r ∷ []) rs;
    }

pub zone_back : (origin : List (List ℕ)) (rs : List Record) → AllByRecursion IsZoneRecord rs → zone_file origin (zone_text rs) ≡ Ok rs
unfolding zone_file after_octet
zone_back origin rs h =
    let t = read_back rs 1 (draft_begun origin) h in
    rw (t.reads) (ap (λ x. Ok x) t.records)
