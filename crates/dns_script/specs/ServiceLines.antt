-- The service lines of a forwarder and of a zone.
use Rattle.std.specs.Prelude.{ℕ, ◌==◌, nat_le, not, is_some, List, [], ◌∷◌, ◌++◌, length, take, drop, Some, Result, Ok, Err, IsErr, ◌≡◌, codes, if◌then◌else◌}
use Rattle.std.specs.Str.{bytes_eq}
use Rattle.dns_name.specs.Place.{Read}
use Rattle.dns_name.specs.declared.error.ParseError.{ParseError}
use Rattle.dns_message.specs.Msg.{ResourceRecord}
use Rattle.dns_message.specs.Records.{data_octets}
use Rattle.dns_message.specs.Standing.{Standing, standing_at, typed}
use Rattle.dns_message.specs.Wire.{record_octets}
use Rattle.dns_message.specs.declared.record.Record.{Record}
use Rattle.dns_trace.specs.Reading.{◌>>=◌, unless}
use Rattle.dns_trace.specs.NameWords.{name_word}
use Rattle.dns_trace.specs.Values.{hex_octets_of, number}
use Rattle.dns_trace.specs.Words.{word_at}
use Rattle.dns_trace.specs.declared.reason.LineError.{LineError}
use Rattle.dns_trace.specs.declared.reason.LineError.TheVariants.{OutOfMemory, Refused}
use Rattle.dns_trace.specs.declared.reason.Reason.{Reason}
use Rattle.dns_trace.specs.declared.reason.Reason.TheVariants.{Order, Mix, Repeat, Count, Value}
use Rattle.dns_script.specs.Draft.{Draft, may_be_upstream, may_be_zone, with_zone_record}
use Rattle.dns_script.specs.Plan.{before_events}
use Rattle.dns_script.specs.declared.upstream.UpstreamLine.{UpstreamLine}
use Rattle.dns_script.specs.declared.upstream.UpstreamWord.{UpstreamWord}
use Rattle.dns_script.specs.declared.upstream.UpstreamWord.TheVariants.{Pend, Rcode, Stray, Late}

-- rcode:N or stray:N, with N below 16
abbrev pub reply_of_word : List ℕ → Result UpstreamWord Reason
reply_of_word w =
    if bytes_eq (take 6 w) (codes "rcode:") then (number 20 16 (drop 6 w) >>= λ n. Ok (Rcode n))
    else if bytes_eq (take 6 w) (codes "stray:") then (number 20 16 (drop 6 w) >>= λ n. Ok (Stray n))
    else Err Value

-- pend, late, or one of those
unfoldable pub upstream_word : List ℕ → Result UpstreamWord Reason
upstream_word w =
    if bytes_eq w (codes "pend") then Ok Pend
    else if bytes_eq w (codes "late") then Ok Late
    else reply_of_word w

-- the words given and those that these spell
abbrev pub upstream_words_after : List UpstreamWord → List (List ℕ) → Result (List UpstreamWord) Reason
upstream_words_after given [] = Ok given
upstream_words_after given (w ∷ ws) = upstream_word w >>= λ u. upstream_words_after (given ++ u ∷ []) ws

-- upstream NAME WORD ..
unfoldable pub upstream_of : List (List ℕ) → Result UpstreamLine Reason
upstream_of ws = do
  _ ← unless Count (nat_le 3 (length ws))
  name ← name_word (word_at ws 1)
  words ← upstream_words_after [] (drop 2 ws)
  Ok (record { name = name; words = words })

-- an upstream stands before the first event, if no service line of another kind does
abbrev pub before_upstream : {E : Type 0} → Draft E → Result (Unit {0}) Reason
before_upstream d = before_events d.plan >>= λ _. unless Mix (may_be_upstream d)

unfoldable pub upstream_line : {E : Type 0} → Draft E → List (List ℕ) → Result (Draft E) Reason
upstream_line d ws = do
  _ ← before_upstream d
  upstream ← upstream_of ws
  Ok (record d { upstreams = d.upstreams ++ upstream ∷ [] })

-- zone NAME
unfoldable pub apex_of : List (List ℕ) → Result (List (List ℕ)) Reason
apex_of ws = unless Count (length ws == 2) >>= λ _. name_word (word_at ws 1)

-- a zone stands before the first event, if no other service line does
abbrev pub before_zone : {E : Type 0} → Draft E → Result (Unit {0}) Reason
before_zone d = do
  _ ← before_events d.plan
  _ ← unless Mix (may_be_zone d)
  unless Repeat (not (is_some d.zone))

unfoldable pub zone_line : {E : Type 0} → Draft E → List (List ℕ) → Result (Draft E) Reason
zone_line d ws = do
  _ ← before_zone d
  apex ← apex_of ws
  Ok (record d { zone = Some (record { apex = apex; records = [] }) })

-- a record of class IN, with the data of these octets
abbrev pub resource_of : List (List ℕ) → ℕ → ℕ → List ℕ → ResourceRecord
resource_of owner seconds rtype octets = record { owner = owner; rtype = rtype; class = 1; ttl = seconds; rdata = octets }

-- the record as it stands in octets of its own
abbrev pub read_alone : Read Standing → Result Record ParseError
read_alone (Ok s) = typed s.0
read_alone (Err e) = Err e

-- a record that was read, or the refusal of what isn't one, unless memory ran out
abbrev pub GivesRead : {A : Type 0} → Result A LineError → Result A ParseError → Type 0
GivesRead (Ok x) read = read ≡ Ok x
GivesRead (Err OutOfMemory) read = Unit {0}
GivesRead (Err (Refused r)) read = (r ≡ Value) × IsErr read

-- a record whose data is written as these octets, so that no name in it is compressed, or a refusal
abbrev pub written_uncompressed : List ℕ → Result Record ParseError → Result Record Reason
written_uncompressed octets (Ok r) = if bytes_eq (data_octets r.rdata) octets then Ok r else Err Value
written_uncompressed octets (Err e) = Err Value

-- the record of class IN whose data, of the shape of its type, is these octets
abbrev pub typed_record : List (List ℕ) → ℕ → ℕ → List ℕ → Result Record Reason
typed_record owner seconds rtype octets =
    written_uncompressed octets (read_alone (standing_at (record_octets (resource_of owner seconds rtype octets)) 0))

-- HEX, of at most 65,535 octets
abbrev pub data_word : List ℕ → Result (List ℕ) Reason
data_word w = hex_octets_of w >>= λ octets. unless Value (nat_le (length octets) 65535) >>= λ _. Ok octets

-- TTL TYPE HEX, of a record with this owner
abbrev pub record_with_owner : List (List ℕ) → List (List ℕ) → Result Record Reason
record_with_owner owner ws = do
  seconds ← number 20 4294967296 (word_at ws 2)
  rtype ← number 20 65536 (word_at ws 3)
  octets ← data_word (word_at ws 4)
  typed_record owner seconds rtype octets

-- record NAME TTL TYPE HEX
unfoldable pub record_words : List (List ℕ) → Result Record Reason
record_words ws = do
  _ ← unless Count (length ws == 5)
  owner ← name_word (word_at ws 1)
  record_with_owner owner ws

-- a record stands before the first event, and after the line of its zone
abbrev pub before_record : {E : Type 0} → Draft E → Result (Unit {0}) Reason
before_record d = before_events d.plan >>= λ _. unless Order (is_some d.zone)

unfoldable pub record_line : {E : Type 0} → Draft E → List (List ℕ) → Result (Draft E) Reason
record_line d ws = do
  _ ← before_record d
  r ← record_words ws
  Ok (with_zone_record d r)
