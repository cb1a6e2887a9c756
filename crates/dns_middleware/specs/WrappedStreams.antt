-- What the future and the stream of the service in its layers answer in each state.
use Rattle.std.specs.Prelude.{ℕ, Bool, List, Option, if◌then◌else◌}
use Rattle.dns_base.specs.Msg.{Msg}
use Rattle.dns_service.specs.declared.asked.Asked.{Asked}
use Rattle.dns_service.specs.declared.message.TransportSpecificContext.{TransportSpecificContext}
use Rattle.dns_service.specs.declared.once.Once.{Once}
use Rattle.dns_service.specs.Answer.{Answer, mapped}
use Rattle.dns_service.specs.ErrorReply.{error_reply}
use Rattle.dns_service.specs.Once.{now_of}
use Rattle.dns_layers.specs.declared.refusal.Refusal.{Refusal}
use Rattle.dns_layers.specs.declared.refusal.Refusal.TheVariants.{ByMandatory, ByEdns}
use Rattle.dns_middleware.specs.declared.wrap_post.WrapPost.{WrapPost}
use Rattle.dns_middleware.specs.declared.wrapped_stream.WrappedStream.{WrappedStream}
use Rattle.dns_middleware.specs.declared.wrapped_stream.WrappedStream.TheVariants.{Own, Asking, Passed}
use Rattle.dns_middleware.specs.declared.wrapped_future.WrappedFuture.{WrappedFuture}
use Rattle.dns_middleware.specs.declared.wrapped_future.WrappedFuture.TheVariants as Coming
use Rattle.dns_layers.specs.Edns.{edns_by, edns_rule}
use Rattle.dns_layers.specs.Mandatory.{mand_by, mand_rule}
use Rattle.dns_layers.specs.Notify.{PolledVerdict, ask_answer, ask_size}
use Rattle.dns_layers.specs.Rewritten.{rewritten}

-- what the rule of a request makes of a reply
abbrev pub wrap_by : WrapPost → Msg → Msg
wrap_by p m = mand_by p.mandatory (if p.speaks_edns then edns_by p.edns m else m)

-- the rule for the replies to what is asked, of at most n octets over UDP
abbrev pub wrap_rule : Bool → TransportSpecificContext → ℕ → Asked → WrapPost
wrap_rule on t n a = record { speaks_edns = on; edns = edns_rule t a; mandatory = mand_rule t n a }

-- the reply to what is refused
abbrev pub refused_reply : WrapPost → List ℕ → Refusal → Msg
refused_reply p o (ByMandatory code) = mand_by p.mandatory (error_reply o code)
refused_reply p o (ByEdns code) = wrap_by p (error_reply o code)

-- a reply of its own and a target's are there at once, and the given service's as its future gives them
abbrev pub future_answer : {F V : Type 0} → (Once → ℕ → Answer) → (F → ℕ → Answer) → (V → ℕ → PolledVerdict) → WrappedFuture F V → ℕ
    → Answer
future_answer o f v (Coming.Own stream) k = now_of o stream k
future_answer o f v (Coming.Asking stream post) k = mapped (rewritten (wrap_by post)) (now_of (ask_answer v) stream k)
future_answer o f v (Coming.Passing future post) k = mapped (rewritten (wrap_by post)) (f future k)

abbrev pub wrapped_answer : {R V : Type 0} → (Once → ℕ → Answer) → (R → ℕ → Answer) → (V → ℕ → PolledVerdict) → WrappedStream R V
    → ℕ → Answer
wrapped_answer o r v (Own stream) k = o stream k
wrapped_answer o r v (Asking stream post) k = mapped (rewritten (wrap_by post)) (ask_answer v stream k)
wrapped_answer o r v (Passed stream post) k = mapped (rewritten (wrap_by post)) (r stream k)

abbrev pub wrapped_size : {R V : Type 0} → (Once → ℕ × Option ℕ) → (R → ℕ × Option ℕ) → WrappedStream R V → ℕ × Option ℕ
wrapped_size o r (Own stream) = o stream
wrapped_size o r (Asking stream post) = ask_size stream
wrapped_size o r (Passed stream post) = r stream
