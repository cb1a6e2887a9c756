-- The lines of a zone and of its records that were read, spelled anew, read as these.
use Rattle.std.proofs.Common.{◌≡◌, ℕ, ◌+◌, ◌<◌, ◌≤◌, Bool, true, false, List, [], ◌==◌, take, drop, length, refl, ap, sym, ◌∙◌, arith, append-nil}
use Rattle.std.specs.Prelude.{Ok, Err, Result, codes, nat_eq, nat_le, nat_lt, if◌then◌else◌}
use Rattle.std.specs.Str.{bytes_eq}
use Rattle.std.proofs.lemmas.Bool.{le-leb}
use Rattle.std.proofs.lemmas.Bool.Decides.{nat_tests}
use Rattle.std.proofs.lemmas.Slice.Eq.{bytes_eq-Decides}
use Rattle.hex.specs.Hex.{IsBytes}
use Rattle.dns_name.specs.Labels.{IsName}
use Rattle.dns_name.specs.Place.{Read}
use Rattle.dns_name.specs.declared.error.ParseError.{ParseError}
use Rattle.dns_message.specs.Msg.{ResourceRecord}
use Rattle.dns_message.specs.Read.{◌>>=◌}
use Rattle.dns_message.specs.Zone.{zone_at}
use Rattle.dns_name.specs.Names.{name_within}
use Rattle.dns_message.specs.Records.{data_octets, data_type, is_one_name, shape_of}
use Rattle.dns_message.specs.Standing.{address_at, data_at, data_by, filled, long_address_at, minfo_at, mx_at, names_at, numbered_at, octets_before, one_name_at, soa_at, srv_at, two_before, typed_by}
use Rattle.dns_message.specs.Wire.{record_octets}
use Rattle.dns_message.specs.declared.rdata.RecordData.{RecordData}
use Rattle.dns_message.specs.declared.rdata.RecordData.TheVariants.{Opt, Unknown}
use Rattle.dns_message.specs.declared.record.Record.{Record}
use Rattle.dns_message.proofs.Written.{data_place, standing_written}
use Rattle.dns_trace.proofs.Decimals.{decimal_word, number_back}
use Rattle.dns_trace.proofs.Hexes.{octets_are_word, octets_back}
use Rattle.dns_trace.proofs.Joined.{AreWords}
use Rattle.dns_trace.proofs.Names.{named}
use Rattle.dns_trace.specs.NameWords.{name_word}
use Rattle.dns_trace.specs.Reading.{unless}
use Rattle.dns_trace.specs.Spelling.{octets_word}
use Rattle.dns_trace.specs.Values.{hex_octets_of, number}
use Rattle.dns_trace.specs.Words.{word_at}
use Rattle.dns_trace.specs.declared.reason.Reason.{Reason}
use Rattle.dns_trace.specs.declared.reason.Reason.TheVariants.{Count, Value}
use Rattle.dns_script.proofs.NamesBack.{IsReadName, name_reads, read_is_name}
use Rattle.dns_script.proofs.ReadRange.{Reads, at_ok, below, bound, given, holds, refused}
use Rattle.dns_script.proofs.SettingsRead.{hex_read}
use Rattle.dns_script.specs.ScriptText.{words_of_apex, words_of_record}
use Rattle.dns_script.specs.ServiceLines.{apex_of, data_word, record_words, resource_of, typed_record, written_uncompressed}

-- ---- the type of data is that of its record

same : (t n : ℕ) → nat_eq t n ≡ true → t ≡ n
same t n h = grind (arith, nat_tests)

abbrev IsOf : ℕ → RecordData × ℕ → Type 0
IsOf t x = data_type x.0 ≡ t

-- by a test of the type, which says its shape
by_test : {S : Type 0} (f : S → Read RecordData) (t : ℕ) (b : Bool) (x y : S) → (b ≡ true → Reads (IsOf t) (f x)) → Reads (IsOf t) (f y) → Reads (IsOf t) (f (if b then x else y))
by_test f t true x y h k = h refl
by_test f t false x y h k = k

then_of : {A : Type 0} (t : ℕ) (r : Read A) (f : A × ℕ → Read RecordData) → ((x : A × ℕ) → Reads (IsOf t) (f x)) → Reads (IsOf t) (r >>= f)
then_of t (Ok x) f h = h x
then_of t (Err e) f h = refused

opt_of_type : (b : Bool) (t : ℕ) (d : List ℕ) (limit : ℕ) (e : ParseError) → t ≡ 41 → Reads (IsOf t) (if b then Ok (Opt d, limit) else Err e)
opt_of_type true t d limit e h = given _ _ (sym h)
opt_of_type false t d limit e h = refused

address_of : (t : ℕ) (o : List ℕ) (limit at : ℕ) → t ≡ 1 → Reads (IsOf t) (address_at o limit at)
unfolding address_at
address_of t o limit at h = then_of t (octets_before 4 o limit at) _ (λ x. given (IsOf t) _ (sym h))

long_address_of : (t : ℕ) (o : List ℕ) (limit at : ℕ) → t ≡ 28 → Reads (IsOf t) (long_address_at o limit at)
unfolding long_address_at
long_address_of t o limit at h = then_of t (octets_before 16 o limit at) _ (λ x. given (IsOf t) _ (sym h))

one_name_of : (t : ℕ) (o : List ℕ) (limit at : ℕ) → Reads (IsOf t) (one_name_at t o limit at)
unfolding one_name_at
one_name_of t o limit at = then_of t (name_within o limit at) _ (λ x. given (IsOf t) _ refl)

soa_of : (t : ℕ) (o : List ℕ) (limit at : ℕ) → t ≡ 6 → Reads (IsOf t) (soa_at o limit at)
unfolding soa_at
soa_of t o limit at h = then_of t (names_at o limit at) _ (λ x. then_of t (zone_at (take limit o) x.1) _ (λ y. given (IsOf t) _ (sym h)))

minfo_of : (t : ℕ) (o : List ℕ) (limit at : ℕ) → t ≡ 14 → Reads (IsOf t) (minfo_at o limit at)
unfolding minfo_at
minfo_of t o limit at h = then_of t (names_at o limit at) _ (λ x. given (IsOf t) _ (sym h))

mx_of : (t : ℕ) (o : List ℕ) (limit at : ℕ) → t ≡ 15 → Reads (IsOf t) (mx_at o limit at)
unfolding mx_at
mx_of t o limit at h = then_of t (numbered_at o limit at) _ (λ x. given (IsOf t) _ (sym h))

srv_of : (t : ℕ) (o : List ℕ) (limit at : ℕ) → t ≡ 33 → Reads (IsOf t) (srv_at o limit at)
unfolding srv_at
srv_of t o limit at h =
    then_of t (two_before o limit at) _ (λ x. then_of t (two_before o limit x.1) _ (λ y. then_of t (numbered_at o limit y.1) _ (λ z. given (IsOf t) _ (sym h))))

type_read : (t : ℕ) (o : List ℕ) (limit at : ℕ) → Reads (IsOf t) (data_by (shape_of t) t o limit at)
type_read t o limit at =
    by_test (λ s. data_by s t o limit at) t (nat_eq t 1) _ _ (λ e. address_of t o limit at (same t 1 e))
    (by_test (λ s. data_by s t o limit at) t (nat_eq t 28) _ _ (λ e. long_address_of t o limit at (same t 28 e))
    (by_test (λ s. data_by s t o limit at) t (is_one_name t) _ _ (λ e. one_name_of t o limit at)
    (by_test (λ s. data_by s t o limit at) t (nat_eq t 6) _ _ (λ e. soa_of t o limit at (same t 6 e))
    (by_test (λ s. data_by s t o limit at) t (nat_eq t 14) _ _ (λ e. minfo_of t o limit at (same t 14 e))
    (by_test (λ s. data_by s t o limit at) t (nat_eq t 15) _ _ (λ e. mx_of t o limit at (same t 15 e))
    (by_test (λ s. data_by s t o limit at) t (nat_eq t 33) _ _ (λ e. srv_of t o limit at (same t 33 e))
    (by_test (λ s. data_by s t o limit at) t (nat_eq t 41) _ _ (λ e. opt_of_type _ t _ limit _ (same t 41 e)) (given (IsOf t) (Unknown t (drop at (take limit o)), limit) refl))))))))

abbrev HasType : ℕ → RecordData → Type 0
HasType t d = data_type d ≡ t

ended : (b : Bool) (t : ℕ) (d : RecordData) (e : ParseError) → data_type d ≡ t → Reads (HasType t) (if b then Err e else Ok d)
ended true t d e h = refused
ended false t d e h = given _ _ h

filled_of : (t limit : ℕ) (read : Read RecordData) → Reads (IsOf t) read → Reads (HasType t) (filled limit read)
filled_of t limit (Ok (d, end)) h = ended (nat_lt end limit) t d _ h.each
filled_of t limit (Err e) h = refused

type_stays : (t : ℕ) (o : List ℕ) (limit at : ℕ) → Reads (HasType t) (data_at t o limit at)
unfolding data_at
type_stays t o limit at = filled_of t limit (data_by (shape_of t) t o limit at) (type_read t o limit at)

-- ---- a record

-- a record of class IN with this owner, time to live, type and data
record IsWith (owner : List (List ℕ)) (seconds rtype : ℕ) (octets : List ℕ) (r : Record) : Type 0 where
  owner_is : r.owner ≡ owner
  seconds_is : r.ttl ≡ seconds
  type_is : data_type r.rdata ≡ rtype
  data_is : data_octets r.rdata ≡ octets

same_data : (b : Bool) (owner : List (List ℕ)) (seconds rtype : ℕ) (octets : List ℕ) (d : RecordData) → bytes_eq (data_octets d) octets ≡ b → data_type d ≡ rtype
    → Reads (IsWith owner seconds rtype octets) (if b then Ok (record { owner = owner; class = 1; ttl = seconds; rdata = d }) else Err Value)
same_data true owner seconds rtype octets d e h = given _ _ (record { owner_is = refl; seconds_is = refl; type_is = h; data_is = (bytes_eq-Decides (data_octets d) octets).0 e })
same_data false owner seconds rtype octets d e h = refused

by_content : (owner : List (List ℕ)) (seconds rtype : ℕ) (octets : List ℕ) (content : Result RecordData ParseError) → Reads (HasType rtype) content
    → Reads (IsWith owner seconds rtype octets) (written_uncompressed octets (typed_by (resource_of owner seconds rtype octets) content))
by_content owner seconds rtype octets (Ok d) h = same_data (bytes_eq (data_octets d) octets) owner seconds rtype octets d refl h.each
by_content owner seconds rtype octets (Err e) h = refused

typed_is : (owner : List (List ℕ)) (seconds rtype : ℕ) (octets : List ℕ) → IsName owner → Reads (IsWith owner seconds rtype octets) (typed_record owner seconds rtype octets)
typed_is owner seconds rtype octets h =
    let x : ResourceRecord = resource_of owner seconds rtype octets in
    let o : List ℕ = record_octets x in
    let stands = standing_written x o [] 0 h (sym (append-nil o)) in
    rw stands (by_content owner seconds rtype octets (data_at rtype o (data_place x 0 + length octets) (data_place x 0)) (type_stays rtype o (data_place x 0 + length octets) (data_place x 0)))

pub record IsReadRecord (r : Record) : Type 0 where
  pub owner : IsReadName r.owner
  pub seconds : r.ttl < 4294967296
  pub rtype : data_type r.rdata < 65536
  pub few : length (data_octets r.rdata) ≤ 65535
  pub bytes : IsBytes (data_octets r.rdata)
  pub again : typed_record r.owner r.ttl (data_type r.rdata) (data_octets r.rdata) ≡ Ok r

where_ok : {A : Type 0} (P : A → Type 0) (r : Result A Reason) → ((x : A) → r ≡ Ok x → P x) → Reads P r
where_ok P (Ok x) h = given _ _ (h x refl)
where_ok P (Err e) h = refused

record IsData (o : List ℕ) : Type 0 where
  bytes : IsBytes o
  few : length o ≤ 65535

at_most : (m n : ℕ) → nat_le m n ≡ true → m ≤ n
at_most m n h = grind (arith, nat_tests)

data_read : (w : List ℕ) → Reads IsData (data_word w)
data_read w =
    bound IsData (hex_octets_of w) _ (λ o e. bound _ (unless Value (nat_le (length o) 65535)) _ (λ u e2.
    given _ _ (record { bytes = at_ok IsBytes (hex_octets_of w) o (hex_read w) e; few = at_most (length o) 65535 (holds Value (nat_le (length o) 65535) u e2) })))

read_of : (owner : List (List ℕ)) (seconds rtype : ℕ) (octets : List ℕ) (r : Record) → IsReadName owner → IsName owner → seconds < 4294967296 → rtype < 65536 → IsData octets
    → typed_record owner seconds rtype octets ≡ Ok r → IsReadRecord r
read_of owner seconds rtype octets r n name s t d e =
    let is = at_ok (IsWith owner seconds rtype octets) (typed_record owner seconds rtype octets) r (typed_is owner seconds rtype octets name) e in
    record {
      owner = rw (is.owner_is) n;
      seconds = rw (is.seconds_is) s;
      rtype = rw (is.type_is) t;
      few = rw (is.data_is) d.few;
      bytes = rw (is.data_is) d.bytes;
      again =
          ap (λ (n : List (List ℕ)). typed_record n r.ttl (data_type r.rdata) (data_octets r.rdata)) is.owner_is
          ∙ ap (λ (k : ℕ). typed_record owner k (data_type r.rdata) (data_octets r.rdata)) is.seconds_is
          ∙ ap (λ (k : ℕ). typed_record owner seconds k (data_octets r.rdata)) is.type_is
          ∙ ap (λ (o : List ℕ). typed_record owner seconds rtype o) is.data_is
          ∙ e;
    }

each_read : (owner : List (List ℕ)) (seconds rtype : ℕ) (octets : List ℕ) → IsReadName owner → IsName owner → seconds < 4294967296 → rtype < 65536 → IsData octets
    → Reads IsReadRecord (typed_record owner seconds rtype octets)
each_read owner seconds rtype octets n name s t d = where_ok IsReadRecord (typed_record owner seconds rtype octets) (λ r e. read_of owner seconds rtype octets r n name s t d e)

pub record_read : (ws : List (List ℕ)) → Reads IsReadRecord (record_words ws)
unfolding record_words
record_read ws =
    bound IsReadRecord (unless Count (length ws == 5)) _ (λ u e.
    bound _ (name_word (word_at ws 1)) _ (λ owner e1.
    bound _ (number 20 4294967296 (word_at ws 2)) _ (λ seconds e2.
    bound _ (number 20 65536 (word_at ws 3)) _ (λ rtype e3.
    bound _ (data_word (word_at ws 4)) _ (λ octets e4.
    each_read owner seconds rtype octets (name_reads (word_at ws 1) owner e1) (read_is_name (word_at ws 1) owner e1) (below 20 4294967296 (word_at ws 2) seconds e2)
    (below 20 65536 (word_at ws 3) rtype e3) (at_ok IsData (data_word (word_at ws 4)) octets (data_read (word_at ws 4)) e4))))))

data_back : (o : List ℕ) → IsBytes o → length o ≤ 65535 → data_word (octets_word o) ≡ Ok o
data_back o bytes few = rw (octets_back o bytes, le-leb (length o) 65535 few) refl

pub record_back : (r : Record) → IsReadRecord r → record_words (words_of_record r) ≡ Ok r
unfolding record_words
record_back r h =
    rw (
      h.owner.reads,
      number_back 20 4294967296 r.ttl (omega arith) (omega (arith, h.seconds)) h.seconds (omega (arith, h.seconds)),
      number_back 20 65536 (data_type r.rdata) (omega arith) (omega (arith, h.rtype)) h.rtype (omega (arith, h.rtype)),
      data_back (data_octets r.rdata) h.bytes h.few,
    )
    h.again

pub record_are_words : (r : Record) → IsReadRecord r → AreWords (words_of_record r)
record_are_words r h = (
  named (codes "record") refl (omega arith),
  (
    h.owner.word,
    (decimal_word r.ttl (omega (arith, h.seconds)), (decimal_word (data_type r.rdata) (omega (arith, h.rtype)), (octets_are_word (data_octets r.rdata) h.bytes, tt))),
  ),
)

-- ---- the name of a zone

named_at : (w : List ℕ) (read : Result (List (List ℕ)) Reason) → name_word w ≡ read → Reads IsReadName read
named_at w (Ok n) e = given _ _ (name_reads w n e)
named_at w (Err x) e = refused

pub apex_read : (ws : List (List ℕ)) → Reads IsReadName (apex_of ws)
unfolding apex_of
apex_read ws = bound IsReadName (unless Count (length ws == 2)) _ (λ u e. named_at (word_at ws 1) (name_word (word_at ws 1)) refl)

pub apex_back : (n : List (List ℕ)) → IsReadName n → apex_of (words_of_apex n) ≡ Ok n
unfolding apex_of
apex_back n h = h.reads

pub apex_are_words : (n : List (List ℕ)) → IsReadName n → AreWords (words_of_apex n)
apex_are_words n h = (named (codes "zone") refl (omega arith), (h.word, tt))
