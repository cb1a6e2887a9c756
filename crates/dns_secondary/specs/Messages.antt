-- What a secondary asks its primary, and what a primary tells its secondaries.
use Rattle.std.specs.Prelude.{ℕ, true, List, [], ◌∷◌}
use Rattle.dns_base.specs.Built.{empty, zero_header}
use Rattle.dns_base.specs.Msg.{Msg}
use Rattle.dns_message.specs.declared.question.Question.{Question}

-- a question of class IN about a zone
abbrev pub zone_question : ℕ → List (List ℕ) → Question
zone_question t apex = record { qname = apex; qtype = t; qclass = 1 }

-- the query for the SOA record (RFC 1034, section 4.3.5), and that for the whole zone (RFC 5936, section 2.1)
abbrev pub zone_query : ℕ → ℕ → List (List ℕ) → Msg
zone_query t id apex = record empty { header = record zero_header { id = id }; questions = zone_question t apex ∷ [] }

-- the NOTIFY of a zone: its opcode, AA, and the question for the SOA record (RFC 1996, section 3.7)
abbrev pub zone_notify : ℕ → List (List ℕ) → Msg
zone_notify id apex = record empty { header = record zero_header { id = id; opcode = 4; aa = true }; questions = zone_question 6 apex ∷ [] }
