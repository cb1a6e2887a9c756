-- A reply with an OPT record that holds a padding.
use Rattle.std.proofs.Common.{◌≡◌, ℕ, ◌+◌, ◌≤◌, ◌<◌, Bool, true, false, length, nat_le, replicate, refl, sym, subst, arith}
use Rattle.std.proofs.lemmas.Bool.Decides.{nat_tests}
use Rattle.std.specs.Prelude.{⊤, Result, Ok, Err}
use Rattle.dns_name.specs.declared.opt_error.BuildDataError.{BuildDataError}
use Rattle.dns_name.specs.declared.opt_error.BuildDataError.TheVariants.{LongOptData, WrongLength, ShortBuf, OutOfMemory as NoMemory}
use Rattle.dns_base.specs.Built.{Built, PassesLimit}
use Rattle.dns_opt.specs.Drafts.{BuiltFitting, BuiltOpt, Ends, OptDraft, PushedIn, opened_opt, room_of, with_opt_record}
use Rattle.dns_opt.proofs.Sizes.{opt_grows}
use Rattle.dns_script.specs.Played.{PutsPadding, padded_draft}

-- if the closure was met, no list is too long
by_result : (d : OptDraft) (old new : Built) (result : Result ⊤ BuildDataError) → Ends (Ok tt) d old new result → PutsPadding d old new result
by_result d old new (Ok u) h = h
by_result d old new (Err LongOptData) h = absurd h
by_result d old new (Err (WrongLength s t)) h = h
by_result d old new (Err ShortBuf) h = h
by_result d old new (Err NoMemory) h = h

module _ (calls : OptDraft → Result ⊤ BuildDataError → OptDraft → Type 0) (old new : Built) (result : Result ⊤ BuildDataError) (n : ℕ) where
  -- a closure that pushes the padding and does nothing else
  abbrev pub PushesPadding : Type 0
  PushesPadding = (answer : Result ⊤ BuildDataError) (left : OptDraft) → calls (opened_opt old) answer left → PushedIn 12 (replicate n 0) (opened_opt old) left answer

  passes : room_of old < 4 + length {A = ℕ} (replicate n 0) + 11 → PassesLimit (with_opt_record (padded_draft old n) old)
  passes h =
      let d = padded_draft old n in
      let g = opt_grows d.head d.options old in
      omega (arith, h, g)

  too_long : old.limit ≤ 65535 → 65535 < 4 + length {A = ℕ} (replicate n 0) → PassesLimit (with_opt_record (padded_draft old n) old)
  too_long l h =
      let d = padded_draft old n in
      let g = opt_grows d.head d.options old in
      omega (arith, l, h, g)

  ended : (answer : Result ⊤ BuildDataError) (left : OptDraft) → old.limit ≤ 65535 → PushedIn 12 (replicate n 0) (opened_opt old) left answer → Ends answer left old new result → PutsPadding (padded_draft old n) old new result
  ended (Ok u) left l p h = by_result (padded_draft old n) old new result (subst (λ (d : OptDraft). Ends (Ok u) d old new result) p.2 h)
  ended (Err LongOptData) left l p h = subst (λ (r : Result ⊤ BuildDataError). PutsPadding (padded_draft old n) old new r) (sym h.0) (h.1, too_long l p.0)
  ended (Err (WrongLength s t)) left l p h = absurd p
  ended (Err ShortBuf) left l p h = subst (λ (r : Result ⊤ BuildDataError). PutsPadding (padded_draft old n) old new r) (sym h.0) (h.1, passes p.1)
  ended (Err NoMemory) left l p h = subst (λ (r : Result ⊤ BuildDataError). PutsPadding (padded_draft old n) old new r) (sym h.0) h.1

  by_room : (b : Bool) → nat_le 11 (room_of old) ≡ b → old.limit ≤ 65535 → PushesPadding → BuiltFitting b calls old new result → PutsPadding (padded_draft old n) old new result
  by_room false e l p h =
      let small : room_of old < 11 = grind (arith, nat_tests) in
      subst (λ (r : Result ⊤ BuildDataError). PutsPadding (padded_draft old n) old new r) (sym h.0) (h.1, passes (omega (arith, small)))
  by_room true e l p h = ended h.answer h.left l (p h.answer h.left h.met) h.ends

  pub padding_put : old.limit ≤ 65535 → PushesPadding → BuiltOpt calls old new result → PutsPadding (padded_draft old n) old new result
  padding_put l p h = by_room (nat_le 11 (room_of old)) refl l p h
