-- Records whose data has the shape of its type (RFC 1035, section 3.3; RFC 3596, section 2.2; RFC 2782; RFC 6672; RFC 6891, section 6.1.2).
use Rattle.std.specs.Prelude.{ℕ, ◌≡◌, ◌≤◌, Bool, true, false, List, ◌++◌, length, nat_eq, nat_lt, if◌then◌else◌, Option, Some, None, is_some}
use Rattle.dns_name.specs.Place.{two, four}
use Rattle.dns_name.specs.Labels.{spell}
use Rattle.dns_message.specs.declared.rdata.Shape.{Shape}
use Rattle.dns_message.specs.declared.rdata.Shape.TheVariants.{Address, LongAddress, OneName, Authority, TwoNames, Exchange, Service, Options, Other}
use Rattle.dns_message.specs.declared.rdata.RecordData.{RecordData}
use Rattle.dns_message.specs.declared.rdata.RecordData.TheVariants.{A, Aaaa, Named, Soa, Minfo, Mx, Srv, Opt, Unknown}
use Rattle.dns_message.specs.declared.record.Record.{Record}
use Rattle.dns_message.specs.declared.compose_record.RecordFields.{RecordFields}
use Rattle.dns_message.specs.Msg.{ResourceRecord}
use Rattle.dns_message.specs.Options.{IsOptionList, options}

-- NS, MD, MF, CNAME, MB, MG, MR, PTR and DNAME
abbrev pub is_one_name : ℕ → Bool
is_one_name t = if nat_eq t 2 then true else (if nat_eq t 3 then true
    else (if nat_eq t 4 then true else (if nat_eq t 5 then true
    else (if nat_eq t 7 then true else (if nat_eq t 8 then true
    else (if nat_eq t 9 then true else (if nat_eq t 12 then true else nat_eq t 39)))))))

-- the shape of a type's data
abbrev pub shape_of : ℕ → Shape
shape_of t =
    if nat_eq t 1 then Address
    else (if nat_eq t 28 then LongAddress
    else (if is_one_name t then OneName
    else (if nat_eq t 6 then Authority
    else (if nat_eq t 14 then TwoNames
    else (if nat_eq t 15 then Exchange
    else (if nat_eq t 33 then Service
    else (if nat_eq t 41 then Options
    else Other)))))))

abbrev pub data_type : RecordData → ℕ
data_type (A a) = 1
data_type (Aaaa a) = 28
data_type (Named t n) = t
data_type (Soa m r s f t e n) = 6
data_type (Minfo a b) = 14
data_type (Mx p n) = 15
data_type (Srv p w o n) = 33
data_type (Opt o) = 41
data_type (Unknown t o) = t

abbrev pub is_other : Shape → Bool
is_other Other = true
is_other _ = false

abbrev pub is_name_alone : Shape → Bool
is_name_alone OneName = true
is_name_alone _ = false

-- data as octets, names uncompressed
abbrev pub data_octets : RecordData → List ℕ
data_octets (A a) = a
data_octets (Aaaa a) = a
data_octets (Named t n) = spell n
data_octets (Soa m r s f t e n) = spell m ++ (spell r ++ (four s.0 ++ (four f ++ (four t ++ (four e ++ four n)))))
data_octets (Minfo a b) = spell a ++ spell b
data_octets (Mx p n) = two p ++ spell n
data_octets (Srv p w o n) = two p ++ (two w ++ (two o ++ spell n))
data_octets (Opt o) = o
data_octets (Unknown t o) = o

-- data that is octets, without names and numbers
abbrev pub octets_alone : RecordData → Option (List ℕ)
octets_alone (A a) = Some a
octets_alone (Aaaa a) = Some a
octets_alone (Opt o) = Some o
octets_alone (Unknown t o) = Some o
octets_alone (Named t n) = None
octets_alone (Soa m r s f t e n) = None
octets_alone (Minfo a b) = None
octets_alone (Mx p n) = None
octets_alone (Srv p w o n) = None

-- data that can be written: a type that is named has that variant's shape, and octets are as long as a record holds
abbrev pub IsLawful : RecordData → Type 0
IsLawful (A a) = length a ≡ 4
IsLawful (Aaaa a) = length a ≡ 16
IsLawful (Named t n) = shape_of t ≡ OneName
IsLawful (Soa m r s f t e n) = Unit {0}
IsLawful (Minfo a b) = Unit {0}
IsLawful (Mx p n) = Unit {0}
IsLawful (Srv p w o n) = Unit {0}
IsLawful (Opt o) = IsOptionList o × (length o ≤ 65535)
IsLawful (Unknown t o) = (shape_of t ≡ Other) × (length o ≤ 65535)

-- data of a type without a shape, none for other types and if the octets are too many
abbrev pub unknown_data : ℕ → List ℕ → Option RecordData
unknown_data t o = if nat_lt 65535 (length o) then None else (if is_other (shape_of t) then Some (Unknown t o) else None)

-- data that is one name, none for types whose data isn't
abbrev pub named_data : ℕ → List (List ℕ) → Option RecordData
named_data t n = if is_name_alone (shape_of t) then Some (Named t n) else None

-- the data of an OPT record, none if the octets are no option list or too many
abbrev pub opt_data : List ℕ → Option RecordData
opt_data o = if nat_lt 65535 (length o) then None else (if is_some (options o) then Some (Opt o) else None)

-- the record with its data as octets
abbrev pub record_of : Record → ResourceRecord
record_of r = record { owner = r.owner; rtype = data_type r.rdata; class = r.class; ttl = r.ttl; rdata = data_octets r.rdata }

-- a record whose name and data are borrowed, with its data as octets
abbrev pub record_by : RecordFields → ResourceRecord
record_by r = record { owner = r.owner; rtype = data_type r.rdata.now; class = r.class; ttl = r.ttl; rdata = data_octets r.rdata.now }
