-- How the layers take a request, by what they decide.
use Rattle.std.proofs.Common.{◌≡◌, ◌∙◌, ℕ, zero, suc, Bool, true, false, cond, List, Option, Some, None, Ok, Err, refl, ap, sym}
use Rattle.dns_base.specs.Built.{Built}
use Rattle.dns_base.specs.Msg.{Msg}
use Rattle.dns_events.specs.declared.settings.Settings.{Settings}
use Rattle.dns_service.specs.Answer.{Answer, Item, mapped}
use Rattle.dns_service.specs.Once.{once}
use Rattle.dns_service.specs.Req.{Req}
use Rattle.dns_service.specs.declared.service.Polled.TheVariants.{Pending, Ready}
use Rattle.dns_service.specs.declared.service.ServiceError.TheVariants.{InternalError}
use Rattle.dns_layers.specs.declared.ask_stream.AskStream.{AskStream}
use Rattle.dns_layers.specs.declared.no_secondaries.NoSecondaries.{NoSecondaries}
use Rattle.dns_layers.specs.declared.notifiable.NotifyError.TheVariants.{NotAuthForZone}
use Rattle.dns_layers.specs.Notify.{PolledVerdict, ask_answer, asking, notify_reply}
use Rattle.dns_layers.specs.Rewritten.{own_reply, reply, rewritten}
use Rattle.dns_middleware.specs.declared.wrap_post.WrapPost.{WrapPost}
use Rattle.dns_middleware.specs.Wrapped.{Gate, Outer, Inner, Ask, Pass, by_gate, gate, inner_post, passed, replies, request_limit}
use Rattle.dns_middleware.specs.WrappedStreams.{wrap_by}
use Rattle.dns_layers.specs.Mandatory.{mand_post}
use Rattle.dns_decide.specs.declared.decision.Decision.TheVariants as Decided_by
use Rattle.dns_decide.specs.Decided.{AnswersReplies, is_pass}
use Rattle.dns_proxy.specs.Fronts.{IsTaken}
use Rattle.dns_proxy.specs.declared.front.Taken.TheVariants as How
use Rattle.dns_fronts.specs.Layered.{asked_message, given_where, item_in, layered, no_verdict, no_zones, sendable}
use Rattle.dns_fronts.specs.Passed.{passed_to}

-- an answer that comes once, rewritten
pub mapped-once : (f : Item → Item) (i : Item) (k : ℕ) → mapped f (once i k) ≡ once (f i) k
mapped-once f i zero = refl
mapped-once f i (suc k) = refl

-- a request that isn't passed on is answered once, whatever service is inside
pub record OneAnswer (s : Settings) (n : ℕ) (r : Req (Unit {0})) (g : Gate (Unit {0})) : Type 0 where
  pub own : Item
  pub answers : (svc : Req (Unit {0}) → ℕ → Answer) (k : ℕ) → by_gate s svc no_zones n r g k ≡ once own k

notice-once : (f : Msg → Msg) (o : List ℕ) (k : ℕ) → mapped (rewritten f) (asking o (λ (j : ℕ). Ready (Err NotAuthForZone)) k) ≡ once (rewritten f (reply (notify_reply o (Err NotAuthForZone)))) k
notice-once f o zero = refl
notice-once f o (suc k) = refl

one-answer : (s : Settings) (n : ℕ) (r : Req (Unit {0})) (g : Gate (Unit {0})) → is_pass g ≡ false → OneAnswer s n r g
one-answer s n r (Outer m) h = record { own = reply (mand_post n r m); answers = λ svc k. refl }
one-answer s n r (Inner m) h = record { own = reply (inner_post s n r m); answers = λ svc k. refl }
one-answer s n r (Ask notice) h = record { own = rewritten (inner_post s n r) (reply (notify_reply r.octets (Err NotAuthForZone))); answers = λ svc k. notice-once (inner_post s n r) r.octets k }
one-answer s n r (Pass q) h = absurd (cc)

-- no upstream is asked for a request that isn't passed on
asks-none : (s : Settings) (r : Req (Unit {0})) → is_pass (gate s r) ≡ false → asked_message s r ≡ None
asks-none s r h = ap (λ (b : Bool). cond b (sendable r.octets) None) h

-- the layers' own reply
pub own-taken : (s : Settings) (r : Req (Unit {0})) (b : Built)
    → AnswersReplies no_verdict s no_zones r (Decided_by.Own b) → false ≡ is_pass (gate s r)
    → IsTaken wrap_by (λ i. layered s i r) (asked_message s r) (How.Own (reply b.message))
own-taken s r b h p = (asks-none s r (sym p), λ i k. sym (h (λ q. once (given_where (sendable q.octets) i)) k))

-- the reply to a NOTIFY
pub notice-taken : (s : Settings) (r : Req (Unit {0})) (stream : AskStream NoSecondaries) (post : WrapPost)
    → AnswersReplies no_verdict s no_zones r (Decided_by.Asking stream post) → false ≡ is_pass (gate s r)
    → IsTaken wrap_by (λ i. layered s i r) (asked_message s r) (How.Own (item_in (mapped (rewritten (wrap_by post)) (ask_answer no_verdict stream 0))))
notice-taken s r stream post h p =
    let one = one-answer s (request_limit s r) r (gate s r) (sym p) in
    let first : item_in (mapped (rewritten (wrap_by post)) (ask_answer no_verdict stream 0)) ≡ one.own =
    ap item_in (h (λ q. once (Err InternalError)) 0 ∙ one.answers (λ q. once (Err InternalError)) 0) in (
      asks-none s r (sym p),
      λ i k. one.answers (λ q. once (given_where (sendable q.octets) i)) k ∙ ap (λ (x : Item). once x k) (sym first),
    )

-- a request that is passed on
passed-taken : (s : Settings) (r : Req (Unit {0})) (post : WrapPost) (m : Option (List ℕ)) → m ≡ sendable r.octets → asked_message s r ≡ m
    → ((i : Item) (k : ℕ) → mapped (rewritten (wrap_by post)) (once (given_where m i) k) ≡ layered s i r k)
    → IsTaken wrap_by (λ i. layered s i r) (asked_message s r) (passed_to post m)
passed-taken s r post None e asks h = (asks, λ i k. sym (h i k) ∙ mapped-once (rewritten (wrap_by post)) (Err InternalError) k)
passed-taken s r post (Some m) e asks h = (asks, λ i k. sym (h i k) ∙ mapped-once (rewritten (wrap_by post)) i k)

pub pass-taken : (s : Settings) (r : Req (Unit {0})) (post : WrapPost)
    → AnswersReplies no_verdict s no_zones r (Decided_by.Passed post) → true ≡ is_pass (gate s r)
    → IsTaken wrap_by (λ i. layered s i r) (asked_message s r) (passed_to post (sendable r.octets))
pass-taken s r post h p =
    passed-taken s r post (sendable r.octets) refl (ap (λ (b : Bool). cond b (sendable r.octets) None) (sym p))
    (λ i k. h (λ q. once (given_where (sendable q.octets) i)) k)
