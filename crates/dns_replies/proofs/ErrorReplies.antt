-- Error replies: an OPT record that holds the code, and the limit.
use Rattle.std.proofs.Common.{◌≡◌, ℕ, Bool, true, false, List, [], ◌∷◌, nat_le, if◌then◌else◌, refl, ap, sym, subst, ◌∙◌, arith}
use Rattle.std.proofs.lemmas.Bool.Decides.{nat_tests}
use Rattle.std.specs.Prelude.{⊤, Result, Ok}
use Rattle.dns_name.specs.declared.opt_error.BuildDataError.{BuildDataError}
use Rattle.dns_message.specs.declared.question.Question.{Question}
use Rattle.dns_base.specs.Msg.{Msg}
use Rattle.dns_base.specs.Built.{Built, PassesLimit, with_question}
use Rattle.dns_base.specs.Replies.{with_copied, error_by, within_limit}
use Rattle.dns_opt.specs.Drafts.{Appended, BuiltFitting, BuiltOpt, OptDraft, Ends, opened_opt, room_of, with_opt, with_opt_record}
use Rattle.dns_opt.proofs.Sizes.{opt_grows}
use Rattle.dns_replies.specs.ErrorReply.{code_draft, error_begun, error_reply, with_code}

copied_limit : (b : Built) (qs : List Question) → (with_copied b qs).0.limit ≡ b.limit
copied_limit b [] = refl
copied_limit b (q ∷ qs) = elim (within_limit (with_question b q)) as (λ (c : Bool). (if c then with_copied (with_question b q) qs else (b, false)).0.limit ≡ b.limit) [ true ↦ copied_limit (with_question b q) qs | false ↦ refl ]

error_limit : (c : Built × Bool) → (error_by c).limit ≡ c.0.limit
error_limit (b, true) = refl
error_limit (b, false) = refl

code_limit : (b : Built) (code : ℕ) → (with_code b code).limit ≡ b.limit
code_limit b code = elim (within_limit (with_opt_record (code_draft b code) b)) as (λ (c : Bool). (if c then with_opt (code_draft b code) b else b).limit ≡ b.limit) [ true ↦ refl | false ↦ refl ]

-- a new builder's error reply is the message alone, since the limit stays
pub reply_made : (b : Built) (query : List ℕ) (code : ℕ) → b ≡ with_code (error_begun query code) code → b ≡ record { message = error_reply query code; limit = 65535 }
reply_made b query code e =
    let begun : (error_begun query code).limit ≡ 65535 = error_limit _ ∙ copied_limit _ _ in
    let l : b.limit ≡ 65535 = ap (λ (x : Built). x.limit) e ∙ (code_limit (error_begun query code) code ∙ begun) in
    let m : b.message ≡ error_reply query code = ap (λ (x : Built). x.message) e in
    ap (λ (x : Msg). record { message = x; limit = b.limit }) m ∙ ap (λ (x : ℕ). record { message = error_reply query code; limit = x }) l

module _ (calls : OptDraft → Result ⊤ BuildDataError → OptDraft → Type 0) (old new : Built) (result : Result ⊤ BuildDataError) (code : ℕ) where
  -- a closure that sets the code and does nothing else
  abbrev pub SetsCode : Type 0
  SetsCode = (answer : Result ⊤ BuildDataError) (left : OptDraft) → calls (opened_opt old) answer left → (answer ≡ Ok tt) × (left ≡ code_draft old code)

  no_room : (b : Bool) → nat_le 11 (room_of old) ≡ b → SetsCode → BuiltFitting b calls old new result → Appended (code_draft old code) old new result
  no_room false e s h =
      let g = opt_grows (code_draft old code).head [] old in
      let d = code_draft old code in
      let passes : PassesLimit (with_opt_record d old) = grind (arith, nat_tests) in
      subst (λ r. Appended d old new r) (sym h.0) (h.1, passes)
  no_room true e s h =
      let k = s h.answer h.left h.met in
      let d = code_draft old code in
      subst (λ (x : OptDraft). Appended x old new result) k.1 (subst (λ r. Ends r h.left old new result) k.0 h.ends)

  pub code_put : SetsCode → BuiltOpt calls old new result → Appended (code_draft old code) old new result
  code_put = no_room (nat_le 11 (room_of old)) refl
