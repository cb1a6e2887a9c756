-- The answers of the service that plays a script's rules.
use Rattle.std.specs.Prelude.{◌≡◌, ⊤, ℕ, zero, suc, List, [], ◌∷◌, replicate, if◌then◌else◌, Some, None, Result, Ok, Err}
use Rattle.dns_name.specs.declared.opt_error.BuildDataError.{BuildDataError}
use Rattle.dns_name.specs.declared.opt_error.BuildDataError.TheVariants.{LongOptData}
use Rattle.dns_base.specs.Built.{Built, PassesLimit, empty, with_answer, zero_header}
use Rattle.dns_base.specs.Msg.{Msg, ResourceRecord}
use Rattle.dns_base.specs.Options.{option_octets}
use Rattle.dns_base.specs.Replies.{answer_to, have_room, within_limit}
use Rattle.dns_opt.specs.Drafts.{Appended, OptDraft, opened_opt, with_opt, with_opt_record}
use Rattle.dns_service.specs.Answer.{Answer, Item}
use Rattle.dns_service.specs.Req.{Req}
use Rattle.dns_service.specs.declared.service.Polled.TheVariants.{Pending, Ready}
use Rattle.dns_service.specs.declared.service.ServiceError.TheVariants.{InternalError}
use Rattle.dns_service.specs.declared.service.ServiceFeedback.{ServiceFeedback}
use Rattle.dns_script.specs.declared.rule.Rule.{Rule}
use Rattle.dns_script.specs.declared.rule.ScriptAnswer.{ScriptAnswer}
use Rattle.dns_script.specs.declared.rule.ScriptAnswer.TheVariants.{Pend, Error, Feedback, Reply, Both}
use Rattle.dns_script.specs.declared.rule.ScriptReply.{ScriptReply}
use Rattle.dns_script.specs.declared.rule.ScriptReply.TheVariants.{Rcode, Blank, Fill, Opt, Live}
use Rattle.dns_script.specs.Rules.{answers_for, name_asked}

-- a new builder: the empty message, which may take 65,535 octets
abbrev pub new_builder : Built
new_builder = record { message = empty; limit = 65535 }

-- a message as a reply, and nothing else
abbrev pub replied : Msg → Item
replied m = Ok (record { response = Some m; feedback = None })

-- a reply with this response code, or the error `servfail` if the questions have no room
abbrev pub played_reply : List ℕ → ℕ → Item
played_reply o code = if have_room new_builder o code then replied (answer_to new_builder o code).message else Err InternalError

-- the header alone, whose other bits are zero
abbrev pub blank_reply : ℕ → Item
blank_reply code = replied (record empty { header = record zero_header { rcode = code } })

-- what is built, if it stays within its limit, else the error `servfail`
abbrev pub replied_within : Built → Built → Item
replied_within whole b = if within_limit whole then replied b.message else Err InternalError

-- a reply with the response code 0 and this answer
abbrev pub answered_with : List ℕ → ResourceRecord → Item
answered_with o rr =
    if have_room new_builder o 0
    then replied_within (with_answer (answer_to new_builder o 0) rr) (with_answer (answer_to new_builder o 0) rr)
    else Err InternalError

-- an answer of the root's name, type 65280 and class 1, with this time to live and these octets
abbrev pub private_record : ℕ → List ℕ → ResourceRecord
private_record seconds o = record { owner = []; rtype = 65280; class = 1; ttl = seconds; rdata = o }

-- that many zeros, and the time to live 0
abbrev pub fill_record : ℕ → ResourceRecord
fill_record n = private_record 0 (replicate n 0)

abbrev pub fill_reply : List ℕ → ℕ → Item
fill_reply o n = answered_with o (fill_record n)

-- this time to live, and no octets
abbrev pub live_record : ℕ → ResourceRecord
live_record seconds = private_record seconds []

abbrev pub live_reply : List ℕ → ℕ → Item
live_reply o seconds = answered_with o (live_record seconds)

-- an OPT record of size 0 with a padding of that many zeros
abbrev pub padded_draft : Built → ℕ → OptDraft
padded_draft b n = record (opened_opt b) { options = option_octets 12 (replicate n 0) }

-- that record was appended, or had no room
abbrev pub PutsPadding : OptDraft → Built → Built → Result ⊤ BuildDataError → Type 0
PutsPadding d old new (Err LongOptData) = (new ≡ old) × PassesLimit (with_opt_record d old)
PutsPadding d old new result = Appended d old new result

abbrev pub opt_reply : List ℕ → ℕ → Item
opt_reply o n =
    if have_room new_builder o 0
    then replied_within (with_opt_record (padded_draft (answer_to new_builder o 0) n) (answer_to new_builder o 0))
    (with_opt (padded_draft (answer_to new_builder o 0) n) (answer_to new_builder o 0))
    else Err InternalError

abbrev pub reply_item : List ℕ → ScriptReply → Item
reply_item o (Rcode code) = played_reply o code
reply_item o (Blank code) = blank_reply code
reply_item o (Fill n) = fill_reply o n
reply_item o (Opt n) = opt_reply o n
reply_item o (Live seconds) = live_reply o seconds

-- a reply with a feedback; an error has none
abbrev pub item_with_feedback : ServiceFeedback → Item → Item
item_with_feedback feedback (Ok given) = Ok (record given { feedback = Some feedback })
item_with_feedback feedback (Err error) = Err error

-- a feedback, and nothing else
abbrev pub feedback_item : ServiceFeedback → Item
feedback_item feedback = Ok (record { response = None; feedback = Some feedback })

-- one answer to a message of these octets
abbrev pub given : List ℕ → ScriptAnswer → Answer
given o Pend = Pending
given o (Error e) = Ready (Some (Err e))
given o (Feedback feedback) = Ready (Some (feedback_item feedback))
given o (Reply reply) = Ready (Some (reply_item o reply))
given o (Both feedback reply) = Ready (Some (item_with_feedback feedback (reply_item o reply)))

-- answers one by one, and then the end
abbrev pub played_from : List ℕ → List ScriptAnswer → ℕ → Answer
played_from o [] k = Ready None
played_from o (a ∷ more) zero = given o a
played_from o (a ∷ more) (suc k) = played_from o more k

-- the answers of the rules to a request
abbrev pub played : List Rule → Req (Unit {0}) → ℕ → Answer
played rules r = played_from r.octets (answers_for rules (name_asked r.octets))
