-- How a request is taken that the layers pass on.
use Rattle.std.specs.Prelude.{ℕ, List, Option, Some, None, Err}
use Rattle.dns_base.specs.Msg.{Msg}
use Rattle.dns_layers.specs.Rewritten.{rewritten}
use Rattle.dns_middleware.specs.WrappedStreams.{wrap_by}
use Rattle.dns_service.specs.declared.service.ServiceError.TheVariants.{InternalError}
use Rattle.dns_middleware.specs.declared.wrap_post.WrapPost.{WrapPost}
use Rattle.dns_events.specs.declared.settings.Settings.{Settings}
use Rattle.dns_service.specs.Req.{Req}
use Rattle.dns_proxy.specs.Fronts.{IsTaken}
use Rattle.dns_fronts.specs.Caching.{item_of}
use Rattle.dns_fronts.specs.Layered.{asked_message, layered, sendable}
use Rattle.dns_fronts.specs.declared.layered.Decided.{Decided}
use Rattle.dns_fronts.specs.declared.layered.Decided.TheVariants as D
use Rattle.dns_proxy.specs.declared.front.Taken.{Taken}
use Rattle.dns_proxy.specs.declared.front.Taken.TheVariants as How

-- a message is asked for it if one can be sent, and else it is answered by InternalError
abbrev pub passed_to : WrapPost → Option (List ℕ) → Taken WrapPost
passed_to post None = How.Own (Err InternalError)
passed_to post (Some message) = How.Passed post message

-- a message is asked for unless a cache has one for it
abbrev pub taken_unless : WrapPost → List ℕ → Option Msg → Taken WrapPost
taken_unless rule message None = How.Passed rule message
taken_unless rule message (Some m) = How.Own (rewritten (wrap_by rule) (item_of m))

-- how a request is taken that the layers decide so
abbrev pub taken_of : Decided → Option (List ℕ) → Taken WrapPost
taken_of (D.Own item) message = How.Own item
taken_of (D.Passed post) message = passed_to post message

-- what the layers of some settings decide of a request
abbrev pub IsDecided : Settings → Req (Unit {0}) → Decided → Type 0
IsDecided s r d = IsTaken wrap_by (λ i. layered s i r) (asked_message s r) (taken_of d (sendable r.octets))

-- a message is asked for it if one can be sent and a cache has none for it
abbrev pub passed_unless : WrapPost → Option (List ℕ) → Option Msg → Taken WrapPost
passed_unless rule None young = How.Own (Err InternalError)
passed_unless rule (Some message) young = taken_unless rule message young
