-- A record as it stands in a message (RFC 1035, section 4.1.3), and its data read by the shape of its type, pointers followed.
use Rattle.std.specs.Prelude.{ℕ, ◌≡◌, List, length, take, drop, nat_lt, if◌then◌else◌, Result, Ok, Err, is_some}
use Rattle.dns_name.specs.declared.error.ParseError.{ParseError}
use Rattle.dns_name.specs.declared.error.ParseError.TheVariants.{ShortInput, Form, OutOfMemory as NoMemory}
use Rattle.dns_name.specs.declared.error.FormReason.TheVariants.{Shape as OtherShape}
use Rattle.dns_name.specs.Place.{Read}
use Rattle.dns_name.specs.Names.{name_at, name_within}
use Rattle.dns_message.specs.declared.rdata.Shape.{Shape}
use Rattle.dns_message.specs.declared.rdata.Shape.TheVariants.{Address, LongAddress, OneName, Authority, TwoNames, Exchange, Service, Options, Other}
use Rattle.dns_message.specs.declared.rdata.RecordData.{RecordData}
use Rattle.dns_message.specs.declared.rdata.RecordData.TheVariants.{A, Aaaa, Named, Soa, Minfo, Mx, Srv, Opt, Unknown}
use Rattle.dns_message.specs.declared.record.Record.{Record}
use Rattle.dns_message.specs.Msg.{ResourceRecord}
use Rattle.dns_message.specs.Options.{options}
use Rattle.dns_message.specs.Records.{shape_of}
use Rattle.dns_message.specs.Read.{◌>>=◌, two_at, octets_at}
use Rattle.dns_message.specs.Fixed.{fixed_at}
use Rattle.dns_message.specs.Zone.{zone_at}

-- A number lies before the limit, and so do a name's octets before its first pointer.
abbrev pub two_before : List ℕ → ℕ → ℕ → Read ℕ
two_before o limit at = two_at (take limit o) at

abbrev pub octets_before : ℕ → List ℕ → ℕ → ℕ → Read (List ℕ)
octets_before n o limit at = octets_at n (take limit o) at

-- two names, and a number before a name
unfoldable pub names_at : List ℕ → ℕ → ℕ → Read (List (List ℕ) × List (List ℕ))
names_at o limit at = do
  first ← name_within o limit at
  second ← name_within o limit first.1
  Ok ((first.0, second.0), second.1)

unfoldable pub numbered_at : List ℕ → ℕ → ℕ → Read (ℕ × List (List ℕ))
numbered_at o limit at = do
  number ← two_before o limit at
  name ← name_within o limit number.1
  Ok ((number.0, name.0), name.1)

unfoldable pub soa_at : List ℕ → ℕ → ℕ → Read RecordData
soa_at o limit at = do
  names ← names_at o limit at
  numbers ← zone_at (take limit o) names.1
  Ok (Soa names.0.0 names.0.1 numbers.0.serial numbers.0.refresh numbers.0.retry numbers.0.expire numbers.0.minimum, numbers.1)

unfoldable pub minfo_at : List ℕ → ℕ → ℕ → Read RecordData
minfo_at o limit at = do
  names ← names_at o limit at
  Ok (Minfo names.0.0 names.0.1, names.1)

unfoldable pub mx_at : List ℕ → ℕ → ℕ → Read RecordData
mx_at o limit at = do
  exchange ← numbered_at o limit at
  Ok (Mx exchange.0.0 exchange.0.1, exchange.1)

unfoldable pub srv_at : List ℕ → ℕ → ℕ → Read RecordData
srv_at o limit at = do
  priority ← two_before o limit at
  weight ← two_before o limit priority.1
  target ← numbered_at o limit weight.1
  Ok (Srv priority.0 weight.0 target.0.0 target.0.1, target.1)

unfoldable pub one_name_at : ℕ → List ℕ → ℕ → ℕ → Read RecordData
one_name_at t o limit at = do
  name ← name_within o limit at
  Ok (Named t name.0, name.1)

unfoldable pub address_at : List ℕ → ℕ → ℕ → Read RecordData
address_at o limit at = do
  octets ← octets_before 4 o limit at
  Ok (A octets.0, octets.1)

unfoldable pub long_address_at : List ℕ → ℕ → ℕ → Read RecordData
long_address_at o limit at = do
  octets ← octets_before 16 o limit at
  Ok (Aaaa octets.0, octets.1)

-- an option list, which is the data whole
abbrev pub opt_read : List ℕ → ℕ → Read RecordData
opt_read d limit = if is_some (options d) then Ok (Opt d, limit) else Err ShortInput

-- the data of a type, by its shape, from a place up to the limit
abbrev pub data_by : Shape → ℕ → List ℕ → ℕ → ℕ → Read RecordData
data_by Address t o limit at = address_at o limit at
data_by LongAddress t o limit at = long_address_at o limit at
data_by OneName t o limit at = one_name_at t o limit at
data_by Authority t o limit at = soa_at o limit at
data_by TwoNames t o limit at = minfo_at o limit at
data_by Exchange t o limit at = mx_at o limit at
data_by Service t o limit at = srv_at o limit at
data_by Options t o limit at = opt_read (drop at (take limit o)) limit
data_by Other t o limit at = Ok (Unknown t (drop at (take limit o)), limit)

-- data goes up to its limit
abbrev pub filled : ℕ → Read RecordData → Result RecordData ParseError
filled limit (Ok (d, end)) = if nat_lt end limit then Err (Form OtherShape) else Ok d
filled limit (Err e) = Err e

unfoldable pub data_at : ℕ → List ℕ → ℕ → ℕ → Result RecordData ParseError
data_at t o limit at = filled limit (data_by (shape_of t) t o limit at)

-- the data that octets are, and no more
abbrev pub data_alone : ℕ → List ℕ → Result RecordData ParseError
data_alone t o = data_at t o (length o) 0

-- a record as it stands: its data as octets, and what they are by their type's shape
pub record Standing : Type 0 where
  pub resource : ResourceRecord
  pub content : Result RecordData ParseError

-- name, type, class, TTL, the length of the data and the data
unfoldable pub standing_at : List ℕ → ℕ → Read Standing
standing_at o at = do
  owner ← name_at o at
  fixed ← fixed_at o owner.1
  octets ← octets_at fixed.0.size o fixed.1
  Ok (
    record {
      resource = record {
        owner = owner.0;
        rtype = fixed.0.rtype;
        class = fixed.0.class;
        ttl = fixed.0.ttl;
        rdata = octets.0;
      };
      content = data_at fixed.0.rtype o octets.1 fixed.1;
    },
    octets.1,
  )

-- a record, its data not looked into
unfoldable pub record_at : List ℕ → ℕ → Read ResourceRecord
record_at o at = do
  standing ← standing_at o at
  Ok (standing.0.resource, standing.1)

-- the record with its data, or why the data is not of its type's shape
abbrev pub typed_by : ResourceRecord → Result RecordData ParseError → Result Record ParseError
typed_by r (Ok d) = Ok (record { owner = r.owner; class = r.class; ttl = r.ttl; rdata = d })
typed_by r (Err e) = Err e

abbrev pub typed : Standing → Result Record ParseError
typed s = typed_by s.resource s.content

-- what is read is given, unless memory runs out
abbrev pub GivesParsed : {A : Type 0} → Result A ParseError → Result A ParseError → Type 0
GivesParsed (Ok x) read = read ≡ Ok x
GivesParsed (Err NoMemory) read = Unit {0}
GivesParsed (Err ShortInput) read = read ≡ Err ShortInput
GivesParsed (Err (Form f)) read = read ≡ Err (Form f)
