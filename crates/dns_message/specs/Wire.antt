-- How a message is written (RFC 1035, section 4.1): header, counts, questions and records, names uncompressed.
use Rattle.std.specs.Prelude.{ℕ, List, ◌++◌, length}
use Rattle.std.specs.List.{flat_map}
use Rattle.dns_name.specs.Place.{two, four}
use Rattle.dns_name.specs.Labels.{spell}
use Rattle.dns_message.specs.declared.question.Question.{Question}
use Rattle.dns_message.specs.Header.{header_octets}
use Rattle.dns_message.specs.Msg.{Msg, ResourceRecord}

abbrev pub question_octets : Question → List ℕ
question_octets q = spell q.qname ++ (two q.qtype ++ two q.qclass)

abbrev pub record_octets : ResourceRecord → List ℕ
record_octets r = spell r.owner ++ (two r.rtype ++ (two r.class ++ (four r.ttl ++ (two (length r.rdata) ++ r.rdata))))

abbrev pub counts : Msg → List ℕ
counts m = two (length m.questions) ++ (two (length m.answers) ++ (two (length m.authority) ++ two (length m.additional)))

abbrev pub body : Msg → List ℕ
body m = flat_map question_octets m.questions
    ++ (flat_map record_octets m.answers ++ (flat_map record_octets m.authority ++ flat_map record_octets m.additional))

-- the octets of a message
unfoldable pub wire : Msg → List ℕ
wire m = header_octets m.header ++ (counts m ++ body m)
