-- Data that is written in its own form reads as that data.
use Rattle.std.proofs.Common.{◌≡◌, ℕ, zero, suc, ◌+◌, ◌*◌, ◌/◌, ◌%◌, ◌^◌, ◌≤◌, ◌<◌, ◌⊎◌, inl, inr, List, [], ◌∷◌, ◌++◌, get_or, length, drop, take, true, false, true≢false, Some, None, Ok, All, refl, ap, sym, ◌∙◌, arith, append-nil, append_assoc, length-append}
use Rattle.std.specs.Prelude.{Bool, codes, decimal, nat_eq, slice_index, if◌then◌else◌}
use Rattle.std.specs.List.{list_all, AllByRecursion}
use Rattle.std.specs.Str.{bytes_eq}
use Rattle.std.specs.Net.Addr.{octets_of, segments_of}
use Rattle.std.specs.Net.Text.{hex_groups_text, ipv4_text, ipv6_text}
use Rattle.std.specs.Net.Reader.{read_ipv4, read_ipv6, read_number, read_octet, read_segment, read_segments}
use Rattle.std.proofs.lemmas.Bool.{cond_both, false_from_ne_true}
use Rattle.std.proofs.lemmas.Bool.Decides.{nat_tests}
use Rattle.std.proofs.lemmas.Fmt.{decimal_nonempty, digits_decimal}
use Rattle.std.proofs.lemmas.List.Elements.{All-append, All-weaker}
use Rattle.std.proofs.lemmas.List.Sums.{list_all-from_AllPass}
use Rattle.std.proofs.lemmas.Slice.Eq.{bytes_eq-Decides}
use Rattle.std.proofs.NetLemmas.Alphabet.{All-hex_groups_text, All-ipv4_text, IsDigitOrDot, IsHexOrColon}
use Rattle.std.proofs.NetLemmas.Texts.{AllSegments, AllSegments-drop, IsColonHex-ipv6_text, IsDotted-ipv4_text}
use Rattle.hex.specs.Hex.{IsBytes, decode_of, encode_lower, is_hex_digit, lower_digits}
use Rattle.hex.proofs.HexLemmas.{decode_of-encode_lower, decode_of-ok, length-encode_with}
use Rattle.dns_name.specs.Labels.{IsName, spell}
use Rattle.dns_name.specs.Place.{four, two}
use Rattle.dns_message.specs.Records.{IsLawful, data_octets, data_type, shape_of}
use Rattle.dns_message.specs.TypedData.{HasNames, IsTyped}
use Rattle.dns_message.specs.declared.rdata.RecordData.{RecordData}
use Rattle.dns_message.specs.declared.rdata.RecordData.TheVariants.{A, Aaaa, Named, Soa, Minfo, Mx, Srv, Opt, Unknown}
use Rattle.dns_entries.specs.Reading.{◌>>=◌}
use Rattle.dns_entries.specs.declared.entry.Word.{Word}
use Rattle.dns_presentation.specs.Fields.{data_of, generic}
use Rattle.dns_presentation.specs.Names.{is_absolute, name_in}
use Rattle.dns_presentation.specs.Types.{is_meta, layout_of, type_of}
use Rattle.dns_word_values.specs.Values.{long_address, number_below, period, quad}
use Rattle.dns_word_values.proofs.Addresses.{dotted_found, groups_found}
use Rattle.dns_zone_file.specs.Lines.{AreOctets, HoldOctets, IsWord, goes_on, word_on, words_on}
use Rattle.dns_record_text.specs.RecordText.{absolute_text, bare_word, hex_digits, name_type, name_word, number_word, numbered_type, octet_words, type_word, value_words}
use Rattle.dns_zone_file.proofs.NamesBack.{name_back, name_reads}
use Rattle.dns_zone_file.proofs.StringsBack.{text_back, text_words_are}
use Rattle.dns_zone_file.proofs.NumbersBack.{AreDigits, decimal_word, digits_inner, inner_go, is_inner, no_generic, number_back, numbered_word, own, period_back, type_back, word_of}

-- ---- octets of what is put together

bytes_front : (a b : List ℕ) → IsBytes (a ++ b) → IsBytes a
bytes_front [] b h i = omega arith
bytes_front (x ∷ a) b h zero = h 0
bytes_front (x ∷ a) b h (suc i) = bytes_front a b (λ j. h (suc j)) i

bytes_behind : (a b : List ℕ) → IsBytes (a ++ b) → IsBytes b
bytes_behind [] b h = h
bytes_behind (x ∷ a) b h = bytes_behind a b (λ j. h (suc j))

octets_hold : (l : List ℕ) → IsBytes l → AreOctets l
octets_hold [] h = tt
octets_hold (x ∷ l) h = (h 0, octets_hold l (λ j. h (suc j)))

pub names_hold : (ls : List (List ℕ)) → IsBytes (spell ls) → HoldOctets ls
names_hold [] h = tt
names_hold (l ∷ ls) h =
    let t : IsBytes (l ++ spell ls) = λ j. h (suc j) in
    (octets_hold l (bytes_front l (spell ls) t), names_hold ls (bytes_behind l (spell ls) t))

two_small : (n : ℕ) → IsBytes (two n) → n < 65536
two_small n h = let a : n / 256 < 256 = h 0 in omega arith

four_small : (n : ℕ) → IsBytes (four n) → n < 4294967296
four_small n h = let a : n / 65536 / 256 < 256 = h 0 in omega arith

-- ---- a name as a word

pub name_value : (origin ls : List (List ℕ)) (line : ℕ) → IsName ls → HoldOctets ls → name_in origin (word_on line (name_word ls)) ≡ Ok ls
unfolding name_in
name_value origin ls line n a = rw (name_reads origin ls n a) refl

first_cell : (ls : List (List ℕ)) → IsName ls → 0 < length (absolute_text ls)
first_cell [] n = omega arith
first_cell (l ∷ ls) n = simp length-append (omega arith)

pub is_name_word : (ls : List (List ℕ)) → IsName ls → HoldOctets ls → IsWord (name_word ls)
is_name_word ls n a = word_of (absolute_text ls) (first_cell ls n) (name_back ls n a).goes

name_no_generic : (ls : List (List ℕ)) → IsName ls → HoldOctets ls → bytes_eq (absolute_text ls) (codes "\\#") ≡ false
name_no_generic ls n a =
    false_from_ne_true (bytes_eq (absolute_text ls) (codes "\\#"))
    (λ same.
    let e : absolute_text ls ≡ codes "\\#" = (bytes_eq-Decides (absolute_text ls) (codes "\\#")).0 same in
    let absolute : is_absolute (codes "\\#") ≡ true = rw e at (name_back ls n a).absolute in
    cc absolute)

-- ---- a number as a word

decimal_inner : (n : ℕ) → n < 2 ^ 64 → list_all is_inner (decimal n) ≡ true
decimal_inner n h = digits_inner (decimal n) (digits_decimal own n h)

decimal_no_generic : (n : ℕ) → n < 2 ^ 64 → bytes_eq (decimal n) (codes "\\#") ≡ false
decimal_no_generic n h = no_generic (decimal n) (decimal_inner n h)

-- ---- what a record's type and data read as

pub record Reads (d : RecordData) : Type 0 where
  pub rtype : type_of (type_word d) ≡ Some (data_type d)
  pub values : (origin : List (List ℕ)) (at line : ℕ) → data_of origin at line (data_type d) (words_on line (value_words d)) ≡ Ok (data_octets d)
  pub word : IsWord (bare_word (type_word d))
  pub words : AllByRecursion IsWord (value_words d)

-- octets after nothing and before nothing
alone : (o : List ℕ) → ([] ++ o) ++ [] ≡ o
alone o = append-nil o

-- ---- addresses

dot_inner : (c : ℕ) → IsDigitOrDot c → is_inner c ≡ true
dot_inner c (inl h) =
    let low : 48 ≤ c = h.0 in
    let high : c ≤ 57 = h.1 in
    grind (arith, nat_tests)
dot_inner c (inr e) = rw e refl

quad_inner : (a : List ℕ) → IsBytes a → list_all is_inner (ipv4_text a) ≡ true
quad_inner a b = list_all-from_AllPass is_inner (ipv4_text a) (All-weaker IsDigitOrDot (λ c. is_inner c ≡ true) dot_inner (ipv4_text a) (All-ipv4_text a b))

longer : (x y : List ℕ) → 0 < length x → 0 < length (x ++ y)
longer x y h = omega (arith, length-append x y)

dotted_some : (a b c d : List ℕ) → 0 < length a → 0 < length ((((((a ++ (46 ∷ [])) ++ b) ++ (46 ∷ [])) ++ c) ++ (46 ∷ [])) ++ d)
dotted_some a b c d h =
    longer (((((a ++ (46 ∷ [])) ++ b) ++ (46 ∷ [])) ++ c) ++ (46 ∷ [])) d
    (longer ((((a ++ (46 ∷ [])) ++ b) ++ (46 ∷ [])) ++ c) (46 ∷ [])
    (longer (((a ++ (46 ∷ [])) ++ b) ++ (46 ∷ [])) c
    (longer ((a ++ (46 ∷ [])) ++ b) (46 ∷ [])
    (longer (a ++ (46 ∷ [])) b (longer a (46 ∷ []) h)))))

quad_word : (a : List ℕ) → IsBytes a → IsWord (bare_word (ipv4_text a))
quad_word a b =
    let low : get_or a 0 0 < 256 = b 0 in
    let first : 0 < length (decimal (get_or a 0 0)) = decimal_nonempty (get_or a 0 0) (omega arith) in
    word_of (ipv4_text a) (dotted_some (decimal (get_or a 0 0)) (decimal (get_or a 1 0)) (decimal (get_or a 2 0)) (decimal (get_or a 3 0)) first) (inner_go (ipv4_text a) (quad_inner a b))

quad_reads : (a : List ℕ) → length a ≡ 4 → IsBytes a → Reads (A a)
unfolding data_of
quad_reads a l b =
    let found : quad (ipv4_text a) ≡ Some a = dotted_found (ipv4_text a) a (IsDotted-ipv4_text a l b) in
    let plain = no_generic (ipv4_text a) (quad_inner a b) in
    record {
      rtype = refl;
      values = λ origin at line. rw (plain, found) (ap (λ o. Ok o) (alone a));
      word = word_of (codes "A") (omega arith) refl;
      words = (quad_word a b, tt);
    }

octets_again : (a : List ℕ) → IsBytes a → length a % 2 ≡ 0 → octets_of (segments_of a) ≡ a
octets_again [] b e = refl
octets_again (x ∷ []) b e = absurd (omega (arith, e))
octets_again (x ∷ y ∷ a) b e =
    let low : y < 256 = b 1 in
    let high : (x * 256 + y) / 256 ≡ x = omega arith in
    let rest : (x * 256 + y) % 256 ≡ y = omega arith in
    let more : octets_of (segments_of a) ≡ a = octets_again a (λ j. b (suc (suc j))) (omega (arith, e)) in
    rw (high, rest, more) refl

segment_count : (a : List ℕ) → length (segments_of a) ≡ length a / 2
segment_count [] = refl
segment_count (x ∷ []) = refl
segment_count (x ∷ y ∷ a) = omega (arith, segment_count a)

segments_small : (a : List ℕ) → IsBytes a → AllSegments (segments_of a)
segments_small [] b k = omega arith
segments_small (x ∷ []) b k = omega arith
segments_small (x ∷ y ∷ a) b zero =
    let high : x < 256 = b 0 in
    let low : y < 256 = b 1 in
    omega arith
segments_small (x ∷ y ∷ a) b (suc k) = segments_small a (λ j. b (suc (suc j))) k

colon_inner : (c : ℕ) → IsHexOrColon c → is_inner c ≡ true
colon_inner c (inl h) =
    let low : 48 ≤ c = h.0 in
    let high : c ≤ 58 = h.1 in
    grind (arith, nat_tests)
colon_inner c (inr h) =
    let low : 97 ≤ c = h.0 in
    let high : c ≤ 102 = h.1 in
    grind (arith, nat_tests)

groups_inner : (s : List ℕ) → AllSegments s → list_all is_inner (hex_groups_text s) ≡ true
groups_inner s h = list_all-from_AllPass is_inner (hex_groups_text s) (All-weaker IsHexOrColon (λ c. is_inner c ≡ true) colon_inner (hex_groups_text s) (All-hex_groups_text s h))

octets_small : (s : List ℕ) → AllSegments s → IsBytes (octets_of s)
octets_small [] h k = omega arith
octets_small (x ∷ s) h zero = let small : x < 65536 = h 0 in omega arith
octets_small (x ∷ s) h (suc zero) = omega arith
octets_small (x ∷ s) h (suc (suc k)) = octets_small s (λ j. h (suc j)) k

-- an address that maps an IPv4 address ends in it
long_inner : (s : List ℕ) → AllSegments s → list_all is_inner (ipv6_text s) ≡ true
unfolding ipv6_text
long_inner s h =
    cond_both (bytes_eq (take 6 s) (0 ∷ 0 ∷ 0 ∷ 0 ∷ 0 ∷ 65535 ∷ [])) (codes "::ffff:" ++ ipv4_text (octets_of (drop 6 s))) (hex_groups_text s) (λ w. list_all is_inner w ≡ true) (λ _. quad_inner (octets_of (drop 6 s)) (octets_small (drop 6 s) (AllSegments-drop 6 s h))) (λ _. groups_inner s h)

some_long : (w o : List ℕ) → long_address w ≡ Some o → 0 < length w
unfolding read_ipv6 read_segments read_segment read_number read_ipv4 read_octet
some_long [] o h = cc
some_long (c ∷ w) o h = omega arith

long_reads : (a : List ℕ) → length a ≡ 16 → IsBytes a → Reads (Aaaa a)
unfolding data_of
long_reads a l b =
    let s = segments_of a in
    let small = segments_small a b in
    let again : octets_of s ≡ a = octets_again a b (omega (arith, l)) in
    let eight : length s ≡ 8 = omega (arith, segment_count a, l) in
    let found : long_address (ipv6_text s) ≡ Some a = groups_found (ipv6_text s) s (IsColonHex-ipv6_text s eight small) ∙ ap (λ (o : List ℕ). Some o) again in
    let plain = no_generic (ipv6_text s) (long_inner s small) in
    record {
      rtype = refl;
      values = λ origin at line. rw (plain, found) (ap (λ o. Ok o) (alone a));
      word = word_of (codes "AAAA") (omega arith) refl;
      words = (word_of (ipv6_text s) (some_long (ipv6_text s) a found) (inner_go (ipv6_text s) (long_inner s small)), tt);
    }

-- ---- names

-- the type of data that is one name
record NameType (t : ℕ) : Type 0 where
  reads : type_of (name_type t) ≡ Some t
  word : IsWord (bare_word (name_type t))
  layout : layout_of t ≡ layout_of 2

by_number : (t : ℕ) → t < 65536 → is_meta t ≡ false → name_type t ≡ numbered_type t → layout_of t ≡ layout_of 2 → NameType t
by_number t h m e l = record { reads = rw e (type_back t h m); word = rw e (numbered_word t h); layout = l }

name_layout : (t : ℕ) → shape_of t ≡ shape_of 2 → layout_of t ≡ layout_of 2
name_layout t h = grind (arith, nat_tests)

named_type : (t : ℕ) → t < 65536 → is_meta t ≡ false → shape_of t ≡ shape_of 2 → NameType t
named_type t h m s =
    let l = name_layout t s in
    elim (nat_eq t 2) as (λ q. nat_eq t 2 ≡ q → NameType t) [
      | true ↦ λ e. let v : t ≡ 2 = grind (arith, nat_tests) in rw v (record { reads = refl; word = word_of (codes "NS") (omega arith) refl; layout = refl })
      | false ↦ λ two. elim (nat_eq t 5) as (λ q. nat_eq t 5 ≡ q → NameType t) [
        | true ↦ λ e. let v : t ≡ 5 = grind (arith, nat_tests) in rw v (record { reads = refl; word = word_of (codes "CNAME") (omega arith) refl; layout = refl })
        | false ↦ λ five. elim (nat_eq t 12) as (λ q. nat_eq t 12 ≡ q → NameType t) [
          | true ↦ λ e. let v : t ≡ 12 = grind (arith, nat_tests) in rw v (record { reads = refl; word = word_of (codes "PTR") (omega arith) refl; layout = refl })
          | false ↦ λ twelve. elim (nat_eq t 39) as (λ q. nat_eq t 39 ≡ q → NameType t) [
            | true ↦ λ e. let v : t ≡ 39 = grind (arith, nat_tests) in rw v (record { reads = refl; word = word_of (codes "DNAME") (omega arith) refl; layout = refl })
            | false ↦ λ other. by_number t h m (rw (two, five, twelve, other) refl) l
          ] refl
        ] refl
      ] refl
    ] refl

named_reads : (t : ℕ) (n : List (List ℕ)) → t < 65536 → is_meta t ≡ false → shape_of t ≡ shape_of 2 → IsName n → HoldOctets n → Reads (Named t n)
unfolding data_of
named_reads t n h m s k o =
    let y = named_type t h m s in
    record {
      rtype = y.reads;
      values = λ origin at line. rw (name_no_generic n k o, y.layout, name_value origin n line k o) (ap (λ (x : List ℕ). Ok x) (alone (spell n)));
      word = y.word;
      words = (is_name_word n k o, tt);
    }

two_names_reads : (a b : List (List ℕ)) → IsName a → IsName b → HoldOctets a → HoldOctets b → Reads (Minfo a b)
unfolding data_of
two_names_reads a b k l o p =
    record {
      rtype = refl;
      values = λ origin at line. rw (name_no_generic a k o, name_value origin a line k o, name_value origin b line l p) (ap (λ (x : List ℕ). Ok x) (append-nil (spell a ++ spell b)));
      word = word_of (codes "MINFO") (omega arith) refl;
      words = (is_name_word a k o, (is_name_word b l p, tt));
    }

exchange_reads : (p : ℕ) (n : List (List ℕ)) → p < 65536 → IsName n → HoldOctets n → Reads (Mx p n)
unfolding data_of
exchange_reads p n h k o =
    record {
      rtype = refl;
      values = λ origin at line. rw (decimal_no_generic p (omega arith), number_back 65536 p h (omega arith), name_value origin n line k o) (ap (λ (x : List ℕ). Ok x) (append-nil (two p ++ spell n)));
      word = word_of (codes "MX") (omega arith) refl;
      words = (decimal_word p (omega arith), (is_name_word n k o, tt));
    }

service_reads : (p w o : ℕ) (n : List (List ℕ)) → p < 65536 → w < 65536 → o < 65536 → IsName n → HoldOctets n → Reads (Srv p w o n)
unfolding data_of
service_reads p w o n h i j k q =
    record {
      rtype = refl;
      values = λ origin at line.
          rw (decimal_no_generic p (omega arith), number_back 65536 p h (omega arith), number_back 65536 w i (omega arith), number_back 65536 o j (omega arith), name_value origin n line k q)
          (ap (λ (x : List ℕ). Ok x) (simp (append_assoc, append-nil)));
      word = word_of (codes "SRV") (omega arith) refl;
      words = (decimal_word p (omega arith), (decimal_word w (omega arith), (decimal_word o (omega arith), (is_name_word n k q, tt))));
    }

-- ---- octets

hex_is_inner : (c : ℕ) → is_hex_digit c ≡ true → is_inner c ≡ true
hex_is_inner c h = grind (arith, nat_tests)

hex_inner : (o : List ℕ) → IsBytes o → list_all is_inner (encode_lower o) ≡ true
hex_inner o b =
    list_all-from_AllPass is_inner (encode_lower o)
    (All-weaker (λ c. is_hex_digit c ≡ true) (λ c. is_inner c ≡ true) hex_is_inner (encode_lower o) (decode_of-ok (encode_lower o) o (decode_of-encode_lower o b)).1)

digits_word : (o : List ℕ) → IsBytes o → AllByRecursion IsWord (hex_digits o)
digits_word [] b = tt
digits_word (x ∷ xs) b =
    let len = length-encode_with lower_digits (x ∷ xs) in
    let some : 0 < length (encode_lower (x ∷ xs)) = omega arith in
    (word_of (encode_lower (x ∷ xs)) some (inner_go (encode_lower (x ∷ xs)) (hex_inner (x ∷ xs) b)), tt)

same : (n : ℕ) → nat_eq n n ≡ true
same n = grind (arith, nat_tests)

generic_back : (line : ℕ) (o : List ℕ) → IsBytes o → length o ≤ 65535 → generic line (words_on line (number_word (length o) ∷ hex_digits o)) ≡ Ok o
unfolding generic
generic_back line [] b h = rw (number_back 65536 0 (omega arith) (omega arith)) refl
generic_back line (x ∷ xs) b h =
    rw (number_back 65536 (length (x ∷ xs)) (omega arith) (omega arith), decode_of-encode_lower (x ∷ xs) b, same (length (x ∷ xs))) refl

pub octets_back : (origin : List (List ℕ)) (at line t : ℕ) (o : List ℕ) → IsBytes o → length o ≤ 65535 → data_of origin at line t (words_on line (octet_words o)) ≡ Ok o
unfolding data_of
octets_back origin at line t o b h = generic_back line o b h

octet_words_are : (o : List ℕ) → IsBytes o → length o ≤ 65535 → AllByRecursion IsWord (octet_words o)
octet_words_are o b h = (word_of (codes "\\#") (omega arith) refl, (decimal_word (length o) (omega arith), digits_word o b))

by_octets : (t : ℕ) (o : List ℕ) → t < 65536 → is_meta t ≡ false → IsBytes o → length o ≤ 65535 → nat_eq t 16 ≡ false → Reads (Unknown t o)
by_octets t o h m b few e =
    record {
      rtype = rw e (type_back t h m);
      values = λ origin at line. rw e (octets_back origin at line t o b few);
      word = rw e (numbered_word t h);
      words = rw e (octet_words_are o b few);
    }

strings_reads : (o : List ℕ) → IsBytes o → length o ≤ 65535 → Reads (Unknown 16 o)
strings_reads o b few =
    record {
      rtype = refl;
      values = λ origin at line. text_back origin at line o b (octets_back origin at line 16 o b few);
      word = word_of (codes "TXT") (omega arith) refl;
      words = text_words_are o b (octet_words_are o b few);
    }

unknown_reads : (t : ℕ) (o : List ℕ) → t < 65536 → is_meta t ≡ false → IsBytes o → length o ≤ 65535 → Reads (Unknown t o)
unknown_reads t o h m b few =
    elim (nat_eq t 16) as (λ q. nat_eq t 16 ≡ q → Reads (Unknown t o)) [
      | true ↦ λ e. let v : t ≡ 16 = grind (arith, nat_tests) in rw v (strings_reads o b few)
      | false ↦ λ e. by_octets t o h m b few e
    ] refl

-- ---- the start of a zone

start_reads : (m r : List (List ℕ)) (s f t e n : ℕ) → IsName m → IsName r → HoldOctets m → HoldOctets r → s < 4294967296 → f < 4294967296 → t < 4294967296 → e < 4294967296 → n < 4294967296
    → Reads (Soa m r (record { 0 = s }) f t e n)
unfolding data_of
start_reads m r s f t e n k l o p hs hf ht he hn =
    record {
      rtype = refl;
      values = λ origin at line.
          rw (name_no_generic m k o, name_value origin m line k o, name_value origin r line l p, number_back 4294967296 s hs (omega arith), period_back f hf, period_back t ht, period_back e he, period_back n hn)
          (ap (λ (x : List ℕ). Ok x) (simp (append_assoc, append-nil)));
      word = word_of (codes "SOA") (omega arith) refl;
      words = (is_name_word m k o, (is_name_word r l p, (decimal_word s (omega arith), (decimal_word f (omega arith), (decimal_word t (omega arith), (decimal_word e (omega arith), (decimal_word n (omega arith), tt)))))));
    }

-- ---- all data

pub reads : (d : RecordData) → IsTyped d → data_type d < 65536 → is_meta (data_type d) ≡ false → length (data_octets d) ≤ 65535 → IsBytes (data_octets d) → Reads d
reads (A a) h t m few b = quad_reads a h.lawful b
reads (Aaaa a) h t m few b = long_reads a h.lawful b
reads (Named t n) h low m few b = named_reads t n low m h.lawful h.names (names_hold n b)
reads (Soa m r s f t e n) h low meta few b =
    let one = bytes_behind (spell m) (spell r ++ (four s.0 ++ (four f ++ (four t ++ (four e ++ four n))))) b in
    let two_on = bytes_behind (spell r) (four s.0 ++ (four f ++ (four t ++ (four e ++ four n)))) one in
    let refreshes = bytes_behind (four s.0) (four f ++ (four t ++ (four e ++ four n))) two_on in
    let retries = bytes_behind (four f) (four t ++ (four e ++ four n)) refreshes in
    let expires = bytes_behind (four t) (four e ++ four n) retries in
    start_reads m r s.0 f t e n h.names.0 h.names.1 (names_hold m (bytes_front (spell m) _ b)) (names_hold r (bytes_front (spell r) _ one))
    (four_small s.0 (bytes_front (four s.0) (four f ++ (four t ++ (four e ++ four n))) two_on)) (four_small f (bytes_front (four f) (four t ++ (four e ++ four n)) refreshes)) (four_small t (bytes_front (four t) (four e ++ four n) retries)) (four_small e (bytes_front (four e) (four n) expires)) (four_small n (bytes_behind (four e) (four n) expires))
reads (Minfo a b) h t m few o =
    two_names_reads a b h.names.0 h.names.1 (names_hold a (bytes_front (spell a) (spell b) o)) (names_hold b (bytes_behind (spell a) (spell b) o))
reads (Mx p n) h t m few b = exchange_reads p n (two_small p (bytes_front (two p) (spell n) b)) h.names (names_hold n (bytes_behind (two p) (spell n) b))
reads (Srv p w o n) h t m few b =
    let first = bytes_behind (two p) (two w ++ (two o ++ spell n)) b in
    let second = bytes_behind (two w) (two o ++ spell n) first in
    service_reads p w o n (two_small p (bytes_front (two p) (two w ++ (two o ++ spell n)) b)) (two_small w (bytes_front (two w) (two o ++ spell n) first)) (two_small o (bytes_front (two o) (spell n) second)) h.names (names_hold n (bytes_behind (two o) (spell n) second))
reads (Opt o) h t m few b = absurd (true≢false m)
reads (Unknown t o) h low m few b = unknown_reads t o low m b few
