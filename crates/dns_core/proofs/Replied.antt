-- Each message that is sent for an answer, and each error reply, responds to the message that it answers, and fits.
use Rattle.std.proofs.Common.{◌≡◌, ℕ, ◌≤◌, Bool, true, false, List, [], ◌∷◌, length, Option, Some, None, Ok, Err, refl, sym, subst, arith}
use Rattle.std.specs.Prelude.{IfSome, if◌then◌else◌}
use Rattle.dns_message.specs.declared.question.Question.{Question}
use Rattle.dns_base.specs.Built.{Built, with_question}
use Rattle.dns_base.specs.Msg.{Msg, ResourceRecord}
use Rattle.dns_base.specs.Replies.{error_by, within_limit, with_copied}
use Rattle.dns_base.specs.Wire.{wire}
use Rattle.dns_service.specs.Drafts.{with_opt, with_opt_record}
use Rattle.dns_service.specs.Answer.{Answer}
use Rattle.dns_service.specs.Cut.{cut, first_fitting, fits, shortened, sized, truncated}
use Rattle.dns_service.specs.Errors.{rcode_of}
use Rattle.dns_service.specs.ErrorReply.{code_draft, error_begun, error_reply, with_code}
use Rattle.dns_service.specs.OptIn.{minimal, opt_record_in}
use Rattle.dns_service.specs.Transport.{limit, limit_over}
use Rattle.dns_service.specs.declared.message.TransportSpecificContext.{TransportSpecificContext}
use Rattle.dns_service.specs.declared.message.TransportSpecificContext.TheVariants.{Udp}
use Rattle.dns_service.specs.declared.service.Polled.TheVariants.{Pending, Ready}
use Rattle.dns_session.specs.Turns.{reply_to}
use Rattle.dns_core.specs.ReplyTo.{Responds}
use Rattle.dns_middleware.specs.ReplyLaws.{ReplyHas}

-- ---- error replies

-- questions leave the header
copied_responds : (query : List ℕ) (b : Built) (qs : List Question) → Responds query b.message → Responds query (with_copied b qs).0.message
copied_responds query b [] h = h
copied_responds query b (q ∷ qs) h =
    (elim (within_limit (with_question b q)) as (λ x. let p : Built × Bool = (if x then with_copied (with_question b q) qs else (b, false)) in Responds query p.0.message) [ true ↦ copied_responds query (with_question b q) qs h | false ↦ h ])

by_responds : (query : List ℕ) (p : Built × Bool) → Responds query p.0.message → Responds query (error_by p).message
by_responds query (b, true) h = h
by_responds query (b, false) h = h

code_responds : (query : List ℕ) (code : ℕ) (b : Built) → Responds query b.message → Responds query (with_code b code).message
code_responds query code b h =
    (elim (within_limit (with_opt_record (code_draft b code) b)) as (λ x. let p : Built = (if x then with_opt (code_draft b code) b else b) in Responds query p.message) [ true ↦ h | false ↦ h ])

error_responds : (query : List ℕ) (code : ℕ) → Responds query (error_reply query code)
error_responds query code = code_responds query code (error_begun query code) (by_responds query _ (copied_responds query _ _ (refl, refl)))

-- ---- what is cut

first_responds : (query : List ℕ) (n : ℕ) (m : Msg) (qs : List Question) (rs : List ResourceRecord) (last : Msg) → Responds query m → Responds query last → Responds query (first_fitting n (truncated m qs rs ∷ []) last)
first_responds query n m qs rs last h k = (elim (fits n (truncated m qs rs)) as (λ x. Responds query (if x then truncated m qs rs else last)) [ true ↦ h | false ↦ k ])

second_responds : (query : List ℕ) (n : ℕ) (m more : Msg) (qs : List Question) (rs : List ResourceRecord) (last : Msg) → Responds query m → Responds query (first_fitting n (more ∷ []) last) → Responds query (first_fitting n (truncated m qs rs ∷ more ∷ []) last)
second_responds query n m more qs rs last h k = (elim (fits n (truncated m qs rs)) as (λ x. Responds query (if x then truncated m qs rs else first_fitting n (more ∷ []) last)) [ true ↦ h | false ↦ k ])

shortened_responds : (query : List ℕ) (n : ℕ) (m : Msg) (o : Option ResourceRecord) → Responds query m → Responds query (shortened n m o)
shortened_responds query n m None h = first_responds query n m m.questions [] (truncated m [] []) h h
shortened_responds query n m (Some r) h =
    let last = truncated m [] (minimal r ∷ []) in
    second_responds query n m (truncated m m.questions (minimal r ∷ [])) m.questions (r ∷ []) last h (first_responds query n m m.questions (minimal r ∷ []) last h h)

cut_responds : (query : List ℕ) (n : ℕ) (m : Msg) → Responds query m → Responds query (cut n m)
cut_responds query n m h = (elim (fits n m) as (λ x. Responds query (if x then m else shortened n m (opt_record_in m))) [ true ↦ h | false ↦ shortened_responds query n m (opt_record_in m) h ])

-- an error reply, cut or not
pub refused_responds : (query : List ℕ) (n : Option ℕ) (code : ℕ) → Responds query (sized n (error_reply query code))
refused_responds query None code = error_responds query code
refused_responds query (Some n) code = cut_responds query n (error_reply query code) (error_responds query code)

pub at_least : (hint : Option ℕ) → 512 ≤ limit hint
at_least None = search arith
at_least (Some h) = search arith

-- what is cut over UDP fits
pub refused_fits : ((n : ℕ) (m : Msg) → 512 ≤ n → length (wire (cut n m)) ≤ n) → (t : TransportSpecificContext) (before hint : Option ℕ) (m : Msg) → t ≡ Udp before → length (wire (sized (limit_over t (limit hint)) m)) ≤ limit hint
refused_fits fit t before hint m udp = subst (λ (x : TransportSpecificContext). length (wire (sized (limit_over x (limit hint)) m)) ≤ limit hint) (sym udp) (fit (limit hint) m (at_least hint))

-- ---- what is sent for an answer

-- what each reply has, and each error reply
pub reply_has : (P : Msg → Type 0) (n : Option ℕ) (query : List ℕ) (a : Answer) → ReplyHas P a → ((code : ℕ) → P (sized n (error_reply query code))) → IfSome (reply_to n query a) P
reply_has P n query Pending h k = tt
reply_has P n query (Ready None) h k = tt
reply_has P n query (Ready (Some (Ok given))) h k = h
reply_has P n query (Ready (Some (Err error))) h k = k (rcode_of error)
