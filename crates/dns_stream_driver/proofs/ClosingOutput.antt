-- The last output decides whether a connection is closed.
use Rattle.std.proofs.Common.{◌≡◌, List, [], ◌∷◌, ◌++◌, length, refl, sym, ◌∙◌, ap, arith, Option, None}
use Rattle.std.specs.List.{IsLastAndRest}
use Rattle.dns_events.specs.declared.event.Output.{Output}
use Rattle.dns_events.specs.declared.event.Why.{Why}
use Rattle.dns_stream_driver.specs.Closing.{why_closed, closed_by}

pub closed_snoc : (os : List Output) (o : Output) → closed_by (os ++ o ∷ []) ≡ why_closed o
closed_snoc [] o = refl
closed_snoc (p ∷ []) o = refl
closed_snoc (p ∷ q ∷ os) o = closed_snoc (q ∷ os) o

pub closed_last : (outs rest : List Output) (o : Output) (why : Option Why) → IsLastAndRest outs o rest → why ≡ why_closed o → why ≡ closed_by outs
closed_last outs rest o why e h = h ∙ sym (closed_snoc rest o) ∙ ap closed_by (sym e.0)

pub closed_none : (outs : List Output) → length outs ≡ 0 → None ≡ closed_by outs
closed_none [] e = refl
closed_none (o ∷ os) e = absurd (omega arith)
