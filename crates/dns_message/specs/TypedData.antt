-- Records with typed data, and what reading gives for them if they are written (RFC 1035, sections 3.2.1 and 4.1.3).
use Rattle.std.specs.Prelude.{◌≡◌, List, Result, Ok, Err}
use Rattle.std.specs.List.{AllZip}
use Rattle.dns_name.specs.declared.error.ParseError.{ParseError}
use Rattle.dns_name.specs.Labels.{IsName}
use Rattle.dns_message.specs.declared.rdata.RecordData.{RecordData}
use Rattle.dns_message.specs.declared.rdata.RecordData.TheVariants.{A, Aaaa, Named, Soa, Minfo, Mx, Srv, Opt, Unknown}
use Rattle.dns_message.specs.declared.record.Record.{Record}
use Rattle.dns_message.specs.Msg.{ResourceRecord}
use Rattle.dns_message.specs.Records.{record_of, IsLawful}
use Rattle.dns_message.specs.Standing.{Standing, typed}

-- each name in the data is a name
abbrev pub HasNames : RecordData → Type 0
HasNames (A a) = Unit {0}
HasNames (Aaaa a) = Unit {0}
HasNames (Named t n) = IsName n
HasNames (Soa m r s f t e n) = IsName m × IsName r
HasNames (Minfo a b) = IsName a × IsName b
HasNames (Mx p n) = IsName n
HasNames (Srv p w o n) = IsName n
HasNames (Opt o) = Unit {0}
HasNames (Unknown t o) = Unit {0}

-- data that can be written and read again
pub record IsTyped (d : RecordData) : Type 0 where
  pub lawful : IsLawful d
  pub names : HasNames d

-- What stands for a record in a message is that record. If the record was written from typed data, it is read as exactly that.
abbrev pub StandsFor : ResourceRecord → Standing → Type 0
StandsFor x s = (s.resource ≡ x) × ((r : Record) → IsTyped r.rdata → record_of r ≡ x → typed s ≡ Ok r)

-- what an iterator gives for a record
abbrev pub IsReadAs : ResourceRecord → Result Standing ParseError → Type 0
IsReadAs x (Ok s) = StandsFor x s
IsReadAs x (Err e) = ⊥

-- A section of these records is reached, and its iterator gives each of them in its order and no more.
abbrev pub ReadsBack : List ResourceRecord → Result (List (Result Standing ParseError)) ParseError → Type 0
ReadsBack xs (Ok items) = AllZip IsReadAs xs items
ReadsBack xs (Err e) = ⊥
