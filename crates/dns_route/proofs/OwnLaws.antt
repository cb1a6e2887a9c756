-- What error replies have of OPT records.
use Rattle.std.proofs.Common.{◌≡◌, ℕ, ◌+◌, ◌/◌, ◌≤◌, ◌<◌, Bool, true, false, List, [], ◌∷◌, ◌++◌, length, Option, Some, None, refl, ap, ◌∙◌, arith, ◌⊎◌, inl, inr, if◌then◌else◌}
use Rattle.dns_base.specs.Built.{Built, with_question}
use Rattle.dns_base.specs.Msg.{ResourceRecord}
use Rattle.dns_base.specs.Options.{options}
use Rattle.dns_base.specs.Replies.{with_copied, error_by, within_limit}
use Rattle.dns_message.specs.declared.question.Question.{Question}
use Rattle.dns_opt.specs.Drafts.{with_opt, with_opt_record}
use Rattle.dns_opt.specs.Extended.{Extended, extended, extended_octets}
use Rattle.dns_opt.specs.OptRecords.{OptState, opt_record, opt_state, zero_head}
use Rattle.dns_opt.specs.Reopened.{opt_among}
use Rattle.dns_service.specs.ErrorReply.{code_draft, error_begun, error_reply, with_code}
use Rattle.dns_route.specs.OwnReplies.{error_state}
use Rattle.dns_route.specs.ReplyMessage.{ReplyState, begun}

pub options_empty : options [] ≡ Some []
unfolding options
options_empty = refl

-- an OPT record of zeros and no options, or none
abbrev pub IsBare : Option OptState → Type 0
IsBare x = (x ≡ None) ⊎ (x ≡ Some (opt_state zero_head []))

-- no additional record, or such an OPT record alone
abbrev pub AreBare : List ResourceRecord → Type 0
AreBare rs = (rs ≡ []) ⊎ (rs ≡ opt_record (opt_state zero_head []) ∷ [])

copied_bare : (b : Built) (qs : List Question) → (with_copied b qs).0.message.additional ≡ b.message.additional
copied_bare b [] = refl
copied_bare b (q ∷ qs) = elim (within_limit (with_question b q)) as (λ (c : Bool). (if c then with_copied (with_question b q) qs else (b, false)).0.message.additional ≡ b.message.additional) [ true ↦ copied_bare (with_question b q) qs | false ↦ refl ]

error_bare : (c : Built × Bool) → (error_by c).message.additional ≡ c.0.message.additional
error_bare (b, true) = refl
error_bare (b, false) = refl

begun_bare : (query : List ℕ) (code : ℕ) → (error_begun query code).message.additional ≡ []
begun_bare query code = error_bare _ ∙ copied_bare _ _

code_bare : (b : Built) (code : ℕ) → b.message.additional ≡ [] → code < 16 → AreBare (with_code b code).message.additional
code_bare b code h l =
    let e : code / 16 ≡ 0 = omega arith in
    let none : AreBare b.message.additional = inl h in
    let some : AreBare (with_opt (code_draft b code) b).message.additional =
    inr (ap (λ (rs : List ResourceRecord). rs ++ opt_record (opt_state (code_draft b code).head []) ∷ []) h ∙ ap (λ n. opt_record (opt_state (record zero_head { ext = n }) []) ∷ []) e)
    in
    elim (within_limit (with_opt_record (code_draft b code) b)) as (λ (c : Bool). AreBare (if c then with_opt (code_draft b code) b else b).message.additional) [ true ↦ some | false ↦ none ]

pub error_records : (query : List ℕ) (code : ℕ) → code < 16 → AreBare (error_reply query code).additional
error_records query code l = code_bare (error_begun query code) code (begun_bare query code) l

zero_opt : opt_among (opt_record (opt_state zero_head []) ∷ []) ≡ Some (opt_state zero_head [])
zero_opt = rw options_empty refl

opt_bare : (rs : List ResourceRecord) → AreBare rs → IsBare (opt_among rs)
opt_bare rs (inl h) = inl (ap opt_among h)
opt_bare rs (inr h) = inr (ap opt_among h ∙ zero_opt)

pub error_opt : (query : List ℕ) (code : ℕ) → code < 16 → IsBare (error_state query code).opt
error_opt query code l = opt_bare (error_reply query code).additional (error_records query code l)

no_options : (x : Option OptState) → IsBare x → (begun x).options ≡ []
no_options x (inl h) = ap (λ (x : Option OptState). (begun x).options) h
no_options x (inr h) = ap (λ (x : Option OptState). (begun x).options) h

pub error_options : (query : List ℕ) (code : ℕ) → code < 16 → length (begun (error_state query code).opt).options ≡ 0
error_options query code l = ap length (no_options (error_state query code).opt (error_opt query code l))

-- a text has room
pub text_fits : (query text : List ℕ) (r : ReplyState) (k : Extended) → r ≡ error_state query 2 → k ≡ extended 0 (Some text) → length text ≤ 65000 → length (begun r.opt).options + 4 + length (extended_octets k) ≤ 65535
text_fits query text r k e i l =
    let a : length (begun r.opt).options ≡ 0 = ap (λ (r : ReplyState). length (begun r.opt).options) e ∙ error_options query 2 (omega arith) in
    let b : length (extended_octets k) ≡ length (extended_octets (extended 0 (Some text))) = ap (λ (k : Extended). length (extended_octets k)) i in
    let c : length (extended_octets (extended 0 (Some text))) ≡ length text + 2 = omega arith in
    omega (arith, a, b, c)
