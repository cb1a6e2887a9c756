-- The error reply to a query (RFC 1035, section 4.1.1), with a response code of twelve bits (RFC 6891, section 6.1.3).
use Rattle.std.specs.Prelude.{ℕ, ◌/◌, ◌%◌, List, if◌then◌else◌}
use Rattle.dns_base.specs.Msg.{Msg}
use Rattle.dns_base.specs.Built.{Built, empty}
use Rattle.dns_base.specs.Replies.{error_to, within_limit}
use Rattle.dns_opt.specs.Drafts.{OptDraft, opened_opt, with_opt, with_opt_record}
use Rattle.dns_opt.specs.OptRecords.{zero_head}

-- the draft of an OPT record of size 0 and version 0 without options: the code's upper eight bits are in its head, the lower four
-- in the message's header
abbrev pub code_draft : Built → ℕ → OptDraft
code_draft b code = record (opened_opt b) { head = record zero_head { ext = code / 16 }; low = code % 16 }

-- a message with that record and that code, or as it is if the record has no room
abbrev pub with_code : Built → ℕ → Built
with_code b code = if within_limit (with_opt_record (code_draft b code) b) then with_opt (code_draft b code) b else b

-- the query's identifier, opcode, RD and questions, as a response with the code's lower four bits
abbrev pub error_begun : List ℕ → ℕ → Built
error_begun query code = error_to (record { message = empty; limit = 65535 }) query (code % 16)

abbrev pub error_reply : List ℕ → ℕ → Msg
error_reply query code = (with_code (error_begun query code) code).message
