-- A witness of a link stays tied to it.
use Rattle.std.proofs.Common.{◌≡◌, ℕ, List, ◌++◌, take, sym, ◌∙◌, ap, append-nil, append_assoc, arith, add-zero}
use Rattle.std.proofs.Math.Logic.{∥∥₁_map}
use Rattle.dns_io.specs.Causes.{Observed}
use Rattle.dns_io.specs.Traffic.{Traffic, LinkReadMoves, LinkWriteMoves}
use Rattle.dns_io.specs.declared.link.LinkRead.{LinkRead}
use Rattle.dns_io.specs.declared.link.LinkRead.TheVariants.{Got, Again, End, Failed}
use Rattle.dns_io.specs.declared.link.LinkWrite.{LinkWrite}
use Rattle.dns_io.specs.declared.link.LinkWrite.TheVariants.{Took, Again as WriteAgain, Failed as WriteFailed}
use Rattle.dns_witness.specs.Seen.{still}
use Rattle.dns_witness.specs.Since.{TrafficSince}

since_none : (a : Traffic) → TrafficSince a a still
since_none a = record { came = sym (append-nil a.came); went = sym (append-nil a.went); ends = sym (add-zero a.ends); empty_reads = sym (add-zero a.empty_reads); full_writes = sym (add-zero a.full_writes) }

since_read : (r : LinkRead) (buf : List ℕ) (a b b' t t' : Traffic) → TrafficSince a b t → LinkReadMoves r buf b b' → LinkReadMoves r buf t t' → TrafficSince a b' t'
since_read (Got n) buf a b b' t t' s m k = rw (m, k) (record { came = ap (λ (l : List ℕ). l ++ take n buf) s.came ∙ append_assoc a.came t.came (take n buf); went = s.went; ends = s.ends; empty_reads = s.empty_reads; full_writes = s.full_writes })
since_read Again buf a b b' t t' s m k = rw (m, k) (record { came = s.came; went = s.went; ends = s.ends; empty_reads = omega (arith, s.empty_reads); full_writes = s.full_writes })
since_read End buf a b b' t t' s m k = rw (m, k) (record { came = s.came; went = s.went; ends = omega (arith, s.ends); empty_reads = s.empty_reads; full_writes = s.full_writes })
since_read Failed buf a b b' t t' s m k = rw (m, k) s

since_write : (r : LinkWrite) (piece : List ℕ) (a b b' t t' : Traffic) → TrafficSince a b t → LinkWriteMoves r piece b b' → LinkWriteMoves r piece t t' → TrafficSince a b' t'
since_write (Took n) piece a b b' t t' s m k = rw (m, k) (record { came = s.came; went = ap (λ (l : List ℕ). l ++ take n piece) s.went ∙ append_assoc a.went t.went (take n piece); ends = s.ends; empty_reads = s.empty_reads; full_writes = s.full_writes })
since_write WriteAgain piece a b b' t t' s m k = rw (m, k) (record { came = s.came; went = s.went; ends = s.ends; empty_reads = s.empty_reads; full_writes = omega (arith, s.full_writes) })
since_write WriteFailed piece a b b' t t' s m k = rw (m, k) s

pub tied_first : (T : Type 0) (a b t : Traffic) → b ≡ a → t ≡ still → ∥ Observed T T (TrafficSince a b t) ∥₁
tied_first T a b t same none = ∣ record { observed = λ now. (now, rw (same, none) (since_none a)) } ∣₁

module _ (before was now : Type 0) (a b b' t t' : Traffic) where
  pub tied_read : (r : LinkRead) (buf : List ℕ) → ∥ Observed was before (TrafficSince a b t) ∥₁ → Observed now was (LinkReadMoves r buf b b') → LinkReadMoves r buf t t' → ∥ Observed now before (TrafficSince a b' t') ∥₁
  tied_read r buf tied moves seen = ∥∥₁_map tied (λ x. record { observed = λ n. let m = moves.observed n in let y = x.observed m.0 in (y.0, since_read r buf a b b' t t' y.1 m.1 seen) })

  pub tied_write : (r : LinkWrite) (piece : List ℕ) → ∥ Observed was before (TrafficSince a b t) ∥₁ → Observed now was (LinkWriteMoves r piece b b') → LinkWriteMoves r piece t t' → ∥ Observed now before (TrafficSince a b' t') ∥₁
  tied_write r piece tied moves seen = ∥∥₁_map tied (λ x. record { observed = λ n. let m = moves.observed n in let y = x.observed m.0 in (y.0, since_write r piece a b b' t t' y.1 m.1 seen) })

pub tied_still : (before was now : Type 0) (a b b' t : Traffic) → ∥ Observed was before (TrafficSince a b t) ∥₁ → Observed now was (b' ≡ b) → ∥ Observed now before (TrafficSince a b' t) ∥₁
tied_still before was now a b b' t tied moves = ∥∥₁_map tied (λ x. record { observed = λ n. let m = moves.observed n in let y = x.observed m.0 in (y.0, rw (m.1) y.1) })
