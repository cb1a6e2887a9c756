-- Lines that are said one after another.
use Rattle.std.proofs.Common.{◌≡◌, ◌∙◌, ◌+◌, ◌<◌, ℕ, List, ◌++◌, OnOk, Result, Ok, Err, ap, append_assoc, drop, get_or, length, sym}
use Rattle.std.proofs.lemmas.List.{drop_more}
use Rattle.dns_listener.specs.Counting.{reply_line, reply_lines}
use Rattle.dns_listener.specs.declared.counts.ReplyNumbers.{ReplyNumbers}

-- what follows from a step that was done
pub if_ok : {T E P Q : Type 0} (r : Result T E) → (P → Q) → OnOk r P → OnOk r Q
if_ok (Ok x) f h = f h
if_ok (Err e) f h = tt

module _ (rs : List ReplyNumbers) where
  -- one more line
  pub told_more : (i : ℕ) (d : ReplyNumbers) (text more all : List ℕ) → i < length rs → more ≡ text ++ reply_line (get_or rs i d) → text ++ reply_lines (drop i rs) ≡ all → more ++ reply_lines (drop (i + 1) rs) ≡ all
  told_more i d text more all lt more_is told =
      let behind : List ReplyNumbers = drop (i + 1) rs in
      let line : List ℕ = reply_line (get_or rs i d) in
      let one : more ++ reply_lines behind ≡ text ++ (line ++ reply_lines behind) = ap (λ (x : List ℕ). x ++ reply_lines behind) more_is ∙ append_assoc text line (reply_lines behind) in
      one ∙ (ap (λ (xs : List ReplyNumbers). text ++ reply_lines xs) (sym (drop_more rs i d lt)) ∙ told)
