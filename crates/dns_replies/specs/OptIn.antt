-- The OPT record of a message that is a plain record (RFC 6891, section 6.1.1): the first additional record of type 41, if its
-- data is an option list.
use Rattle.std.specs.Prelude.{[], Option}
use Rattle.dns_base.specs.Msg.{Msg, ResourceRecord}
use Rattle.dns_opt.specs.OptRecords.{head_by, opt_record, opt_record_among, opt_state}

-- the message's OPT record as it stands
abbrev pub opt_record_in : Msg → Option ResourceRecord
opt_record_in m = opt_record_among m.additional

-- an OPT record with the size, extended code and version of this one, without flags and options
abbrev pub minimal : ResourceRecord → ResourceRecord
minimal r = opt_record (opt_state (record (head_by r.class r.ttl) { flags = 0 }) [])
