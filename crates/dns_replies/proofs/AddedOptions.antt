-- A reply with one option more.
use Rattle.std.proofs.Common.{◌≡◌, ◌≢◌, ℕ, ◌+◌, ◌≤◌, ◌<◌, Bool, true, false, List, ◌++◌, length, nat_le, if◌then◌else◌, refl, ap, sym, subst, ◌∙◌, arith, length-append}
use Rattle.std.proofs.lemmas.Bool.Decides.{nat_tests}
use Rattle.std.specs.Prelude.{⊤, Result, Ok, Err}
use Rattle.dns_name.specs.declared.opt_error.BuildDataError.{BuildDataError}
use Rattle.dns_name.specs.declared.opt_error.BuildDataError.TheVariants.{LongOptData, WrongLength, ShortBuf, OutOfMemory as NoMemory}
use Rattle.dns_base.specs.Msg.{Msg}
use Rattle.dns_base.specs.Built.{Built}
use Rattle.dns_base.specs.Options.{option_octets}
use Rattle.dns_base.specs.Wire.{wire}
use Rattle.dns_opt.specs.Drafts.{OptDraft, EndsIn, PushedIn, PutInto}
use Rattle.dns_opt.specs.Reopened.{IsReopened, Reopens, less_opts, old_opt, reopened}
use Rattle.dns_opt.proofs.Sizes.{opt_grows}
use Rattle.dns_replies.specs.WithOption.{AddsOption, optioned, with_option}

-- how long the message is with the option
optioned_length : (b : Built) (code : ℕ) (d : List ℕ) → length (wire (optioned b.message code d)) ≡ length (wire (less_opts b).message) + (length (old_opt b.message).options + (4 + length d)) + 11
optioned_length b code d =
    let s = old_opt b.message in
    let o = s.options ++ option_octets code d in
    let l = length-append s.options (option_octets code d) in
    omega (arith, opt_grows s.head o (less_opts b))

test_true : (a b : ℕ) → a ≤ b → nat_le a b ≡ true
test_true a b h = grind (arith, nat_tests)

test_false : (a b : ℕ) → b < a → nat_le a b ≡ false
test_false a b h = grind (arith, nat_tests)

whole : (m : Msg) (code : ℕ) (d : List ℕ) → length (wire (optioned m code d)) ≤ 65535 → with_option m code d ≡ optioned m code d
whole m code d h = ap (λ (b : Bool). if b then optioned m code d else m) (test_true _ _ h)

itself : (m : Msg) (code : ℕ) (d : List ℕ) → 65535 < length (wire (optioned m code d)) → with_option m code d ≡ m
itself m code d h = ap (λ (b : Bool). if b then optioned m code d else m) (test_false _ _ h)

module _ (old new : Built) (code : ℕ) (d : List ℕ) where
  put : (result : Result ⊤ BuildDataError) (left : OptDraft) → old.limit ≤ 65535 → PushedIn code d (reopened old) left (Ok tt) → PutInto left (less_opts old) old new result → AddsOption code d old new result
  put (Ok u) left l k h =
      let g = subst (λ (x : OptDraft). PutInto x (less_opts old) old new (Ok u)) k.2 h in
      let w = whole old.message code d (omega (arith, g.1)) in
      (g.0 ∙ ap (λ (m : Msg). record { message = m; limit = old.limit }) (sym w), g.1)
  put (Err LongOptData) left l k h = absurd h
  put (Err (WrongLength s w)) left l k h = absurd h
  put (Err ShortBuf) left l k h =
      let g = subst (λ (x : OptDraft). PutInto x (less_opts old) old new (Err ShortBuf)) k.2 h in
      (g.0, k.0, g.1)
  put (Err NoMemory) left l k h = h

  refused : (e : BuildDataError) (left : OptDraft) → PushedIn code d (reopened old) left (Err e) → new ≡ old → AddsOption code d old new (Err e)
  refused LongOptData left k h = (h, k.0)
  refused (WrongLength s w) left k h = absurd k
  refused ShortBuf left k h = (h, k.0, omega (arith, k.1, optioned_length old code d))
  refused NoMemory left k h = h

  ended : (result answer : Result ⊤ BuildDataError) (left : OptDraft) → old.limit ≤ 65535 → PushedIn code d (reopened old) left answer → EndsIn answer left (less_opts old) old new result → AddsOption code d old new result
  ended result (Ok u) left l k h = put result left l k h
  ended result (Err e) left l k h = subst (λ (r : Result ⊤ BuildDataError). AddsOption code d old new r) (sym h.0) (refused e left k h.1)

  module _ (calls : OptDraft → Result ⊤ BuildDataError → OptDraft → Type 0) where
    -- a closure that pushes the option and does nothing else
    abbrev pub PushesOption : Type 0
    PushesOption = (answer : Result ⊤ BuildDataError) (left : OptDraft) → calls (reopened old) answer left → PushedIn code d (reopened old) left answer

    built : (result : Result ⊤ BuildDataError) → old.limit ≤ 65535 → PushesOption → IsReopened calls old new result → AddsOption code d old new result
    built result l p h = ended result h.answer h.left l (p h.answer h.left h.met) h.ends

    pub option_added : (result : Result ⊤ BuildDataError) → old.limit ≤ 65535 → PushesOption → Reopens calls old new result → AddsOption code d old new result
    option_added (Ok u) l p h = built (Ok u) l p h
    option_added (Err LongOptData) l p h = built (Err LongOptData) l p h
    option_added (Err (WrongLength s w)) l p h = built (Err (WrongLength s w)) l p h
    option_added (Err ShortBuf) l p h = built (Err ShortBuf) l p h
    option_added (Err NoMemory) l p h = h

  -- if the limit is the greatest there is, the message is as the definition says, refused or not
  pub option_whole : (result : Result ⊤ BuildDataError) → AddsOption code d old new result → old.limit ≡ 65535 → result ≢ Err NoMemory → new.message ≡ with_option old.message code d
  option_whole (Ok u) h l n = ap (λ (b : Built). b.message) h.0
  option_whole (Err LongOptData) h l n = ap (λ (b : Built). b.message) h.0 ∙ sym (itself old.message code d (omega (arith, h.1, optioned_length old code d)))
  option_whole (Err (WrongLength s w)) h l n = absurd h
  option_whole (Err ShortBuf) h l n = ap (λ (b : Built). b.message) h.0 ∙ sym (itself old.message code d (omega (arith, h.2)))
  option_whole (Err NoMemory) h l n = absurd (n refl)
