-- A reply whose OPT record states the server's size and DO.
use Rattle.std.proofs.Common.{◌≡◌, ◌≢◌, ℕ, ◌+◌, ◌≤◌, ◌<◌, Bool, true, false, List, ◌++◌, length, nat_le, if◌then◌else◌, refl, ap, sym, subst, ◌∙◌, arith}
use Rattle.std.proofs.lemmas.Bool.Decides.{nat_tests}
use Rattle.std.specs.Prelude.{⊤, Result, Ok, Err}
use Rattle.dns_name.specs.declared.opt_error.BuildDataError.{BuildDataError}
use Rattle.dns_name.specs.declared.opt_error.BuildDataError.TheVariants.{LongOptData, WrongLength, ShortBuf, OutOfMemory as NoMemory}
use Rattle.dns_base.specs.Msg.{Msg}
use Rattle.dns_base.specs.Built.{Built}
use Rattle.dns_base.specs.Wire.{wire}
use Rattle.dns_opt.specs.Drafts.{OptDraft, EndsIn, PutInto}
use Rattle.dns_opt.specs.Reopened.{IsReopened, Reopens, less_opts, old_opt, reopened}
use Rattle.dns_own_opt.specs.OwnOpts.{own_head, stated, stating}

test_true : (a b : ℕ) → a ≤ b → nat_le a b ≡ true
test_true a b h = grind (arith, nat_tests)

test_false : (a b : ℕ) → b < a → nat_le a b ≡ false
test_false a b h = grind (arith, nat_tests)

module _ (size : ℕ) (dnssec : Bool) where
  whole : (m : Msg) → length (wire (stating size dnssec m)) ≤ 65535 → stated size dnssec m ≡ stating size dnssec m
  whole m h = ap (λ (b : Bool). if b then stating size dnssec m else m) (test_true _ _ h)

  itself : (m : Msg) → 65535 < length (wire (stating size dnssec m)) → stated size dnssec m ≡ m
  itself m h = ap (λ (b : Bool). if b then stating size dnssec m else m) (test_false _ _ h)

  -- the draft with this size and this DO
  abbrev pub own_draft : OptDraft → OptDraft
  own_draft d = record d { head = own_head size dnssec d.head }

  module _ (old new : Built) where
    put : (result : Result ⊤ BuildDataError) → old.limit ≡ 65535 → PutInto (own_draft (reopened old)) (less_opts old) old new result → result ≢ Err NoMemory → new.message ≡ stated size dnssec old.message
    put (Ok u) l h n = let fits : length (wire (stating size dnssec old.message)) ≤ 65535 = omega (arith, h.1, l) in ap (λ (b : Built). b.message) h.0 ∙ sym (whole old.message fits)
    put (Err ShortBuf) l h n = let long : 65535 < length (wire (stating size dnssec old.message)) = omega (arith, h.1, l) in ap (λ (b : Built). b.message) h.0 ∙ sym (itself old.message long)
    put (Err NoMemory) l h n = absurd (n refl)
    put (Err LongOptData) l h n = absurd h
    put (Err (WrongLength s w)) l h n = absurd h

    module _ (calls : OptDraft → Result ⊤ BuildDataError → OptDraft → Type 0) where
      -- a closure that sets both and does nothing else
      abbrev pub SetsBoth : Type 0
      SetsBoth = (answer : Result ⊤ BuildDataError) (left : OptDraft) → calls (reopened old) answer left → (answer ≡ Ok tt) × (left ≡ own_draft (reopened old))

      built : (result : Result ⊤ BuildDataError) → old.limit ≡ 65535 → SetsBoth → IsReopened calls old new result → result ≢ Err NoMemory → new.message ≡ stated size dnssec old.message
      built result l s h n =
          let k = s h.answer h.left h.met in
          let ends : EndsIn (Ok tt) (own_draft (reopened old)) (less_opts old) old new result = subst (λ (d : OptDraft). EndsIn (Ok tt) d (less_opts old) old new result) k.1 (subst (λ (r : Result ⊤ BuildDataError). EndsIn r h.left (less_opts old) old new result) k.0 h.ends) in
          put result l ends n

      pub both_stated : (result : Result ⊤ BuildDataError) → old.limit ≡ 65535 → SetsBoth → Reopens calls old new result → result ≢ Err NoMemory → new.message ≡ stated size dnssec old.message
      both_stated (Ok u) l s h n = built (Ok u) l s h n
      both_stated (Err LongOptData) l s h n = built (Err LongOptData) l s h n
      both_stated (Err (WrongLength a b)) l s h n = built (Err (WrongLength a b)) l s h n
      both_stated (Err ShortBuf) l s h n = built (Err ShortBuf) l s h n
      both_stated (Err NoMemory) l s h n = absurd (n refl)
