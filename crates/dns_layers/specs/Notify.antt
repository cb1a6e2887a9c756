-- The NOTIFY layer (RFC 1996): what a target is asked, and the reply by its verdict.
use Rattle.std.specs.Prelude.{ℕ, zero, suc, List, [], ◌∷◌, length, true, nat_eq, nat_le, if◌then◌else◌, Option, Some, None, Result, Ok, Err}
use Rattle.std.specs.Arc.{arc_value}
use Rattle.dns_name.specs.declared.error.ParseError.{ParseError}
use Rattle.dns_name.specs.declared.address.IpAddr.{IpAddr}
use Rattle.dns_name.specs.declared.serial.Serial.{Serial}
use Rattle.dns_message.specs.declared.question.Question.{Question}
use Rattle.dns_message.specs.declared.rdata.RecordData.{RecordData}
use Rattle.dns_message.specs.declared.rdata.RecordData.TheVariants.{Soa}
use Rattle.dns_base.specs.Msg.{Msg}
use Rattle.dns_base.specs.Sections.{first_of, questions_of, reached, standing_answers}
use Rattle.dns_base.specs.Standing.{Standing}
use Rattle.dns_base.specs.Wire.{wire}
use Rattle.dns_service.specs.declared.service.Polled.{Polled}
use Rattle.dns_service.specs.declared.service.Polled.TheVariants.{Pending, Ready}
use Rattle.dns_service.specs.Answer.{Answer}
use Rattle.dns_service.specs.Asked.{asked_of}
use Rattle.dns_service.specs.Codes.{notauth, notify_opcode, servfail, soa_type}
use Rattle.dns_service.specs.Copied.{copied}
use Rattle.dns_service.specs.ErrorReply.{error_reply}
use Rattle.dns_service.specs.Req.{Req}
use Rattle.dns_layers.specs.declared.notice.Notice.{Notice}
use Rattle.dns_layers.specs.declared.notifiable.NotifyError.{NotifyError}
use Rattle.dns_layers.specs.declared.notifiable.NotifyError.TheVariants.{NotAuthForZone, Other}
use Rattle.dns_layers.specs.declared.ask_stream.AskStream.{AskStream}
use Rattle.dns_layers.specs.declared.ask_stream.AskStream.TheVariants.{Asking, Answered}
use Rattle.dns_layers.specs.Rewritten.{hint_by, reply}

-- ---- what a target is asked

-- the serial that data of a zone's start has (RFC 1996, section 3.7)
abbrev pub soa_serial : RecordData → Option Serial
soa_serial (Soa mname rname serial refresh retry expire minimum) = Some serial
soa_serial _ = None

abbrev pub serial_read : Result RecordData ParseError → Option Serial
serial_read (Ok d) = soa_serial d
serial_read (Err e) = None

-- that of the first answer, if that is such a record and can be read
abbrev pub serial_among : List (Result Standing ParseError) → Option Serial
serial_among [] = None
serial_among (Ok s ∷ more) = serial_read s.content
serial_among (Err e ∷ more) = None

abbrev pub serial_reached : Result (List (Result Standing ParseError)) ParseError → Option Serial
serial_reached (Ok records) = serial_among records
serial_reached (Err e) = None

abbrev pub notified_serial : List ℕ → Option Serial
notified_serial o = serial_reached (reached (questions_of o).1 (standing_answers o))

-- by the first question, if that can be read and is for a zone's start
abbrev pub notice_by : List ℕ → IpAddr → Option Question → Option Notice
notice_by o source None = None
notice_by o source (Some q) = if nat_eq q.qtype soa_type
    then Some (record { class = q.qclass; apex_name = q.qname; serial = notified_serial o; source = source }) else None

-- what the target is asked by a request of opcode NOTIFY
abbrev pub notice_of : {Meta : Type 0} → Req Meta → Option Notice
notice_of r = if nat_eq (asked_of r.octets).opcode notify_opcode
    then notice_by r.octets r.client_addr.ip (first_of (questions_of r.octets).0) else None

-- ---- the reply

-- a message as the response that confirms it, authoritative and without an error (RFC 1996, section 4.7)
abbrev pub confirming : Msg → Msg
confirming m = record m { header = record m.header { qr = true; aa = true; rcode = 0 } }

-- the copy of what was sent, confirmed; SERVFAIL if it can't be read whole or is too long
abbrev pub confirmation : List ℕ → Result Msg ParseError → Msg
confirmation o (Ok m) = if nat_le (length (wire (confirming m))) 65535 then confirming m else error_reply o servfail
confirmation o (Err e) = error_reply o servfail

abbrev pub notify_reply : List ℕ → Result (Unit {0}) NotifyError → Msg
notify_reply o (Ok u) = confirmation o (copied o)
notify_reply o (Err NotAuthForZone) = error_reply o notauth
notify_reply o (Err Other) = error_reply o servfail

-- ---- waiting for a verdict

abbrev pub PolledVerdict : Type 0
PolledVerdict = Polled (Result (Unit {0}) NotifyError)

-- the answer by a verdict
abbrev pub verdict_answer : List ℕ → PolledVerdict → Answer
verdict_answer o Pending = Pending
verdict_answer o (Ready v) = Ready (Some (reply (notify_reply o v)))

-- the first verdict that is there decides
abbrev pub after_first : PolledVerdict → Answer → Answer
after_first Pending a = a
after_first (Ready v) a = Ready None

-- pending as the verdict is, then its reply, then the end
abbrev pub asking : List ℕ → (ℕ → PolledVerdict) → ℕ → Answer
asking o v zero = verdict_answer o (v 0)
asking o v (suc k) = after_first (v 0) (asking o (λ j. v (suc j)) k)

abbrev pub ask_answer : {V : Type 0} → (V → ℕ → PolledVerdict) → AskStream V → ℕ → Answer
ask_answer f (Asking v m) k = asking (arc_value m) (f v) k
ask_answer f Answered k = Ready None

abbrev pub ask_size : {V : Type 0} → AskStream V → ℕ × Option ℕ
ask_size (Asking v m) = (1, Some 1)
ask_size Answered = (0, Some 0)

-- ---- the layer

abbrev pub notify_by : {Meta : Type 0} → (Notice → ℕ → PolledVerdict) → (Req Meta → ℕ → Answer) → Req Meta → ℕ → Option Notice → Answer
notify_by target answer r k (Some notice) = asking r.octets (target notice) k
notify_by target answer r k None = answer r k

-- what the layer answers, by the target's verdicts and by what the service inside answers
abbrev pub notify : {Meta : Type 0} → (Notice → ℕ → PolledVerdict) → (Req Meta → ℕ → Answer) → Req Meta → ℕ → Answer
notify target answer r k = notify_by target answer r k (notice_of r)

-- the hint that a request has after the call
abbrev pub notify_hint : {Meta : Type 0} → (Req Meta → Option ℕ) → Req Meta → Option ℕ
notify_hint hint r = hint_by hint r (notice_of r)
