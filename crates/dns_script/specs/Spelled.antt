-- The one spelling of what the words of service and notify lines say.
use Rattle.std.specs.Prelude.{ℕ, List, [], ◌∷◌, ◌++◌, Option, Some, None, Result, Ok, Err, codes, decimal, flat_map}
use Rattle.dns_service.specs.declared.service.ServiceError.{ServiceError}
use Rattle.dns_service.specs.declared.service.ServiceError.TheVariants.{FormatError, InternalError, NotImplemented, Refused}
use Rattle.dns_service.specs.declared.service.ServiceFeedback.{ServiceFeedback}
use Rattle.dns_service.specs.declared.service.ServiceFeedback.TheVariants.{Reconfigure, BeginTransaction, EndTransaction}
use Rattle.dns_layers.specs.declared.notifiable.NotifyError.{NotifyError}
use Rattle.dns_layers.specs.declared.notifiable.NotifyError.TheVariants.{NotAuthForZone, Other}
use Rattle.dns_trace.specs.Spelling.{number_or_none}
use Rattle.dns_script.specs.declared.rule.ScriptAnswer.{ScriptAnswer}
use Rattle.dns_script.specs.declared.rule.ScriptAnswer.TheVariants.{Pend, Error, Feedback, Reply, Both}
use Rattle.dns_script.specs.declared.rule.ScriptReply.{ScriptReply}
use Rattle.dns_script.specs.declared.rule.ScriptReply.TheVariants.{Rcode, Blank, Fill, Opt, Live}
use Rattle.dns_script.specs.declared.upstream.UpstreamWord.{UpstreamWord}
use Rattle.dns_script.specs.declared.upstream.UpstreamWord.TheVariants.{Pend as NoArrival, Rcode as Replies, Stray, Late}

-- each label with a dot after it, as it was read; the root's name is a dot (RFC 1035, section 5.1)
abbrev pub spelled_name : List (List ℕ) → List ℕ
spelled_name [] = codes "."
spelled_name (l ∷ ls) = flat_map (λ (label : List ℕ). label ++ codes ".") (l ∷ ls)

-- `*` for all names
abbrev pub name_or_star : Option (List (List ℕ)) → List ℕ
name_or_star None = codes "*"
name_or_star (Some name) = spelled_name name

abbrev pub spelled_error : ServiceError → List ℕ
spelled_error FormatError = codes "formerr"
spelled_error InternalError = codes "servfail"
spelled_error NotImplemented = codes "notimp"
spelled_error Refused = codes "refused"

-- a script's timeouts are numbers
abbrev pub spelled_feedback : ServiceFeedback → List ℕ
spelled_feedback (Reconfigure timeout) = codes "idle:" ++ number_or_none timeout
spelled_feedback BeginTransaction = codes "begin"
spelled_feedback EndTransaction = codes "end"

abbrev pub spelled_reply : ScriptReply → List ℕ
spelled_reply (Rcode code) = codes "rcode:" ++ decimal code
spelled_reply (Blank code) = codes "blank:" ++ decimal code
spelled_reply (Fill n) = codes "fill:" ++ decimal n
spelled_reply (Opt n) = codes "opt:" ++ decimal n
spelled_reply (Live seconds) = codes "live:" ++ decimal seconds

abbrev pub spelled_answer : ScriptAnswer → List ℕ
spelled_answer Pend = codes "pend"
spelled_answer (Error e) = spelled_error e
spelled_answer (Feedback feedback) = spelled_feedback feedback
spelled_answer (Reply reply) = spelled_reply reply
spelled_answer (Both feedback reply) = spelled_feedback feedback ++ 43 ∷ spelled_reply reply

abbrev pub spelled_event : UpstreamWord → List ℕ
spelled_event NoArrival = codes "pend"
spelled_event (Replies code) = codes "rcode:" ++ decimal code
spelled_event (Stray code) = codes "stray:" ++ decimal code
spelled_event Late = codes "late"

abbrev pub spelled_verdict : Result (Unit {0}) NotifyError → List ℕ
spelled_verdict (Ok u) = codes "ok"
spelled_verdict (Err NotAuthForZone) = codes "notauth"
spelled_verdict (Err Other) = codes "other"
