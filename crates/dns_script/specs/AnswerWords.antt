-- The answers that words spell.
use Rattle.std.specs.Prelude.{ℕ, ◌==◌, List, [], ◌∷◌, ◌++◌, take, drop, length, Option, Some, None, Result, Ok, Err, codes, if◌then◌else◌}
use Rattle.std.specs.List.{slice_split}
use Rattle.std.specs.Str.{bytes_eq}
use Rattle.dns_service.specs.declared.service.ServiceError.{ServiceError}
use Rattle.dns_service.specs.declared.service.ServiceError.TheVariants.{FormatError, InternalError, NotImplemented, Refused}
use Rattle.dns_service.specs.declared.service.ServiceFeedback.{ServiceFeedback}
use Rattle.dns_service.specs.declared.service.ServiceFeedback.TheVariants.{Reconfigure, BeginTransaction, EndTransaction}
use Rattle.dns_trace.specs.Reading.{◌>>=◌}
use Rattle.dns_trace.specs.Values.{num_of, number}
use Rattle.dns_trace.specs.Words.{word_at}
use Rattle.dns_trace.specs.declared.reason.Reason.{Reason}
use Rattle.dns_trace.specs.declared.reason.Reason.TheVariants.{Value}
use Rattle.dns_script.specs.declared.rule.ScriptAnswer.{ScriptAnswer}
use Rattle.dns_script.specs.declared.rule.ScriptAnswer.TheVariants.{Pend, Error, Feedback, Reply, Both}
use Rattle.dns_script.specs.declared.rule.ScriptReply.{ScriptReply}
use Rattle.dns_script.specs.declared.rule.ScriptReply.TheVariants.{Rcode, Blank, Fill, Opt, Live}

-- a reply with that many zeros: fill:L and opt:L with L at most 65,000
unfoldable pub sized_reply : List ℕ → Result ScriptReply Reason
sized_reply w =
    if bytes_eq (take 5 w) (codes "fill:") then (number 20 65001 (drop 5 w) >>= λ n. Ok (Fill n))
    else if bytes_eq (take 4 w) (codes "opt:") then (number 20 65001 (drop 4 w) >>= λ n. Ok (Opt n))
    else Err Value

-- a reply with a time to live, which is below 2^32
abbrev pub timed_reply : List ℕ → Result ScriptReply Reason
timed_reply w = number 20 4294967296 w >>= λ n. Ok (Live n)

-- a reply: rcode:N and blank:N with N below 16, live:T, or one with zeros
unfoldable pub reply_word : List ℕ → Result ScriptReply Reason
reply_word w =
    if bytes_eq (take 6 w) (codes "rcode:") then (number 20 16 (drop 6 w) >>= λ n. Ok (Rcode n))
    else if bytes_eq (take 6 w) (codes "blank:") then (number 20 16 (drop 6 w) >>= λ n. Ok (Blank n))
    else if bytes_eq (take 5 w) (codes "live:") then timed_reply (drop 5 w)
    else sized_reply w

-- a feedback: begin, end, and idle:NUM in milliseconds
unfoldable pub feedback_word : List ℕ → Result ServiceFeedback Reason
feedback_word w =
    if bytes_eq w (codes "begin") then Ok BeginTransaction
    else if bytes_eq w (codes "end") then Ok EndTransaction
    else if bytes_eq (take 5 w) (codes "idle:") then (num_of (drop 5 w) >>= λ n. Ok (Reconfigure (Some n)))
    else Err Value

abbrev pub error_word : List ℕ → Option ServiceError
error_word w =
    if bytes_eq w (codes "formerr") then Some FormatError
    else if bytes_eq w (codes "servfail") then Some InternalError
    else if bytes_eq w (codes "notimp") then Some NotImplemented
    else if bytes_eq w (codes "refused") then Some Refused
    else None

abbrev pub or_read : Option ServiceError → Result ScriptAnswer Reason → Result ScriptAnswer Reason
or_read (Some e) read = Ok (Error e)
or_read None read = read

-- a feedback if the word is one, and else a reply
abbrev pub feedback_or : Result ServiceFeedback Reason → Result ScriptReply Reason → Result ScriptAnswer Reason
feedback_or (Ok feedback) read = Ok (Feedback feedback)
feedback_or (Err e) read = read >>= λ reply. Ok (Reply reply)

-- pend, an error, a feedback, or a reply
unfoldable pub single_answer : List ℕ → Result ScriptAnswer Reason
single_answer w = if bytes_eq w (codes "pend") then Ok Pend else or_read (error_word w) (feedback_or (feedback_word w) (reply_word w))

-- a feedback and a reply
unfoldable pub double_answer : List ℕ → List ℕ → Result ScriptAnswer Reason
double_answer v w = do
  feedback ← feedback_word v
  reply ← reply_word w
  Ok (Both feedback reply)

-- one of these, or two with `+` between them
abbrev pub answer_in : List (List ℕ) → Result ScriptAnswer Reason
answer_in ps =
    if length ps == 1 then single_answer (word_at ps 0)
    else if length ps == 2 then double_answer (word_at ps 0) (word_at ps 1)
    else Err Value

abbrev pub answer_of : List ℕ → Result ScriptAnswer Reason
answer_of w = answer_in (slice_split (λ b. b == 43) w)

-- the answers given and those of the words
abbrev pub answers_after : List ScriptAnswer → List (List ℕ) → Result (List ScriptAnswer) Reason
answers_after given [] = Ok given
answers_after given (w ∷ ws) = answer_of w >>= λ a. answers_after (given ++ a ∷ []) ws
