-- The texts of the causes for which a list is no zone.
use Rattle.std.specs.Prelude.{ℕ, List, ◌++◌, ◌∷◌, codes}
use Rattle.std.specs.Fmt.{decimal}
use Rattle.dns_zone.specs.declared.error.ZoneError.{ZoneError}
use Rattle.dns_zone.specs.declared.error.ZoneError.TheVariants.{Outside, Class, Opt, Soa, SoaPlace, Cname, OutOfMemory as NoMemory}

-- what is said of a record at a place, of a number of records, or alone
abbrev pub said_of : ZoneError → List ℕ
said_of (Outside i) = codes "is outside the zone"
said_of (Class i) = codes "has another class than IN"
said_of (Opt i) = codes "is an OPT record"
said_of (Soa n) = codes "SOA records in place of one"
said_of (SoaPlace i) = codes "is an SOA record below the apex"
said_of (Cname i) = codes "is a CNAME record beside another record"
said_of NoMemory = codes "out of memory"

-- after the number of a record
abbrev pub record_text : ℕ → List ℕ → List ℕ
record_text i said = codes "record " ++ (decimal i ++ 32 ∷ said)

abbrev pub zone_error_text : ZoneError → List ℕ
zone_error_text (Outside i) = record_text i (said_of (Outside i))
zone_error_text (Class i) = record_text i (said_of (Class i))
zone_error_text (Opt i) = record_text i (said_of (Opt i))
zone_error_text (Soa n) = decimal n ++ 32 ∷ said_of (Soa n)
zone_error_text (SoaPlace i) = record_text i (said_of (SoaPlace i))
zone_error_text (Cname i) = record_text i (said_of (Cname i))
zone_error_text NoMemory = said_of NoMemory
