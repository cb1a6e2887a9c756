-- A witness of an accept object stays tied to it.
use Rattle.std.proofs.Common.{◌≡◌, ◌+◌, List, [], ◌∷◌, ◌++◌, sym, ◌∙◌, ap, append-nil, append_assoc, arith, add-zero}
use Rattle.std.proofs.Math.Logic.{∥∥₁_map}
use Rattle.dns_name.specs.declared.address.SocketAddr.{SocketAddr}
use Rattle.dns_io.specs.Causes.{Observed}
use Rattle.dns_io.specs.AcceptTraffic.{AcceptTraffic}
use Rattle.dns_witness.specs.Seen.{no_accepts}
use Rattle.dns_witness.specs.Since.{AcceptSince}

since_none : (a : AcceptTraffic) → AcceptSince a a no_accepts
since_none a = record { callers = sym (append-nil a.callers); empty_accepts = sym (add-zero a.empty_accepts) }

pub tied_first : (T : Type 0) (a b t : AcceptTraffic) → b ≡ a → t ≡ no_accepts → ∥ Observed T T (AcceptSince a b t) ∥₁
tied_first T a b t same none = ∣ record { observed = λ now. (now, rw (same, none) (since_none a)) } ∣₁

module _ (before was now : Type 0) (a b b' t t' : AcceptTraffic) where
  pub tied_caller : (from : SocketAddr) → ∥ Observed was before (AcceptSince a b t) ∥₁ → Observed now was (b' ≡ record b { callers = b.callers ++ from ∷ [] })
      → t' ≡ record t { callers = t.callers ++ from ∷ [] } → ∥ Observed now before (AcceptSince a b' t') ∥₁
  tied_caller from tied moves seen = ∥∥₁_map tied (λ x. record {
    observed = λ n.
        let m = moves.observed n in
        let y = x.observed m.0 in
        let s = y.1 in
        (y.0, rw (m.1, seen) (record { callers = ap (λ (l : List SocketAddr). l ++ from ∷ []) s.callers ∙ append_assoc a.callers t.callers (from ∷ []); empty_accepts = s.empty_accepts }));
  })

  pub tied_nobody : ∥ Observed was before (AcceptSince a b t) ∥₁ → Observed now was (b' ≡ record b { empty_accepts = b.empty_accepts + 1 })
      → t' ≡ record t { empty_accepts = t.empty_accepts + 1 } → ∥ Observed now before (AcceptSince a b' t') ∥₁
  tied_nobody tied moves seen = ∥∥₁_map tied (λ x. record {
    observed = λ n.
        let m = moves.observed n in
        let y = x.observed m.0 in
        let s = y.1 in
        (y.0, rw (m.1, seen) (record { callers = s.callers; empty_accepts = omega (arith, s.empty_accepts) }));
  })

pub tied_still : (before was now : Type 0) (a b b' t : AcceptTraffic) → ∥ Observed was before (AcceptSince a b t) ∥₁ → Observed now was (b' ≡ b) → ∥ Observed now before (AcceptSince a b' t) ∥₁
tied_still before was now a b b' t tied moves = ∥∥₁_map tied (λ x. record { observed = λ n. let m = moves.observed n in let y = x.observed m.0 in (y.0, rw (m.1) y.1) })
