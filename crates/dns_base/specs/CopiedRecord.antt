-- A record copied out of a message: its data by the shape of its type (RFC 1035, section 3.3), names uncompressed (section 4.1.4).
use Rattle.std.specs.Prelude.{Result, Ok, Err}
use Rattle.dns_name.specs.declared.error.ParseError.{ParseError}
use Rattle.dns_message.specs.declared.record.Record.{Record}
use Rattle.dns_base.specs.Msg.{ResourceRecord}
use Rattle.dns_base.specs.Records.{record_of}
use Rattle.dns_base.specs.Standing.{Standing, typed}

-- a record with its data as octets
abbrev pub plainly : Result Record ParseError → Result ResourceRecord ParseError
plainly (Ok r) = Ok (record_of r)
plainly (Err e) = Err e

-- a record that stands in a message, copied: refused if its data is unreadable
abbrev pub copied_record : Standing → Result ResourceRecord ParseError
copied_record s = plainly (typed s)
