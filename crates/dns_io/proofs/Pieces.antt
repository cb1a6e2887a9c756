-- Pieces that are written.
use Rattle.std.proofs.Common.{◌≡◌, ℕ, List, ◌++◌, ◌+◌, ◌-◌, take, drop, length, ◌∙◌, append_assoc}
use Rattle.std.proofs.Math.Seq.{take-add}
use Rattle.std.proofs.lemmas.List.{take_rest, take-append-drop}
use Rattle.dns_io.specs.Causes.{Observed}
use Rattle.dns_io.specs.Moves.{Cut}

more : (d n : ℕ) (piece a b c : List ℕ) → b ≡ a ++ take d piece → c ≡ b ++ take n (take (length piece - d) (drop d piece)) → c ≡ a ++ take (d + n) piece
more d n piece a b c e f =
    let g : c ≡ b ++ take n (drop d piece) = rw (take_rest piece d) at f in
    g ∙ rw (e, take-add d n piece) (append_assoc a (take d piece) (take n (drop d piece)))

-- after d octets of a piece n more were written
pub wrote_more : (d n : ℕ) (piece a b c : List ℕ) (t0 t1 t2 : Type 0) → Observed t1 t0 (b ≡ a ++ take d piece)
    → Observed t2 t1 (c ≡ b ++ take n (take (length piece - d) (drop d piece))) → Observed t2 t0 (c ≡ a ++ take (d + n) piece)
wrote_more d n piece a b c t0 t1 t2 before now = record {
  observed = λ t. let w = now.observed t in let r = before.observed w.0 in (r.0, more d n piece a b c r.1 w.1);
}

-- after d octets of a piece a write was refused
pub wrote_cut : (d : ℕ) (piece a b c : List ℕ) (t0 t1 t2 : Type 0) → Observed t1 t0 (b ≡ a ++ take d piece)
    → Observed t2 t1 (c ≡ b) → Observed t2 t0 (Cut piece a c)
wrote_cut d piece a b c t0 t1 t2 before now = record {
  observed = λ t. let w = now.observed t in let r = before.observed w.0 in (r.0, record { written = take d piece; rest = drop d piece; whole = take-append-drop d piece; appended = w.1 ∙ r.1 });
}
