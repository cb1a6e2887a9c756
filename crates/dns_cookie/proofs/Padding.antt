-- Octets and zeros that fill a buffer of 32.
use Rattle.std.proofs.Common.{ℕ, ◌≤◌, List, ◌++◌, length, drop, replicate, arith, ◌∙◌, length-append, length-drop}
use Rattle.std.proofs.Math.Seq.{drop-append_seam}
use Rattle.std.proofs.lemmas.List.{drop-replicate}
use Rattle.dns_cookie.specs.Padded.{IsPadded}

pub filled : (o : List ℕ) → 8 ≤ length o → length o ≤ 32 → IsPadded (record { octets = o ++ drop (length o) (replicate 32 0); len = length o })
filled o least most =
    let blank : List ℕ = replicate 32 0 in
    record {
      least = least;
      most = most;
      whole = omega (arith, length-append o (drop (length o) blank), length-drop (length o) blank);
      zeros = drop-append_seam o (drop (length o) blank) ∙ drop-replicate (length o) 32 0;
    }
