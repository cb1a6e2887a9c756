-- A message out of the cache, as a request gets it (RFC 1035, sections 3.2.1 and 4.1.1; RFC 1034, section 4.3.2): it is the
-- request's reply, and its records may be kept for less long.
use Rattle.std.specs.Prelude.{ℕ, ◌-◌, List, map, nat_eq, if◌then◌else◌}
use Rattle.dns_message.specs.declared.header.Header.{Header}
use Rattle.dns_base.specs.Header.{header_of}
use Rattle.dns_base.specs.Msg.{Msg, ResourceRecord}
use Rattle.dns_base.specs.Sections.{questions_of}

-- a record whose TTL is lowered by that many s; an OPT record has no TTL
abbrev pub aged_record : ℕ → ResourceRecord → ResourceRecord
aged_record age r = if nat_eq r.rtype 41 then r else record r { ttl = r.ttl - age }

-- a header with the identifier and the RD bit of a request's
abbrev pub asked_header : Header → Header → Header
asked_header h request = record h { id = request.id; rd = request.rd }

-- a message with the identifier, the RD bit and the question of the octets of a request. Each TTL is lowered by the age in s
abbrev pub aged : Msg → List ℕ → ℕ → Msg
aged m request age = record {
  header = asked_header m.header (header_of request);
  questions = (questions_of request).0;
  answers = map (aged_record age) m.answers;
  authority = map (aged_record age) m.authority;
  additional = map (aged_record age) m.additional;
}
