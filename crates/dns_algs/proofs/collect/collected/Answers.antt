use Rattle.std.proofs.Common.{◌++◌, ◌∷◌, [], length, arith, ap}
use Rattle.std.proofs.lemmas.List.{length-append}
use Rattle.std.proofs.iter.Next.{Yields-more}
use Rattle.dns_algs.proofs.collect.collected.Goals as goal

pub returns-then-len-eq65535 : goal.returns-then-len-eq65535
returns-then-len-eq65535 g c =
    let at = c.loop-algorithm in
    let more = Yields-more g.I.Iterator.next_gives _ at.yielded at.algorithm-iterator c.in-Some.algorithm c.next.new.self at.yielded_by c.in-Some.ensures.steps in (
      at.yielded ++ c.in-Some.algorithm ∷ [],
      c.next.new.self,
      rw c.into_iter-algorithm-iterator.ensures.into_iter_gives at more,
      simp length-append (omega (arith, ap length at.invariant.same)),
    )
