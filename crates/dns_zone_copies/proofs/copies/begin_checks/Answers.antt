use Rattle.std.proofs.Common.{◌<◌, List, arith, get_or, length, subst, sym}
use Rattle.std.specs.List.{AllZip}
use Rattle.std.proofs.lemmas.List.{get_or_default, set-get_or}
use Rattle.dns_zone_copies.specs.Looking.{MayBegin}
use Rattle.dns_zone_copies.specs.Secondaries.{SecondaryState}
use Rattle.dns_zone_copies.proofs.Looks.{begins_more, begun_before}
use Rattle.dns_zone_copies.proofs.OneByOne.{Turn, turn}
use Rattle.dns_zone_copies.proofs.copies.begin_checks.Goals as goal
use Rattle.dns_zone_copies.proofs.copies.begin_checks.Goals.{then-begin_due, else-begin_due}

pub returns-then-left-eq0-clause-begun : goal.returns-then-left-eq0-clause-begun
returns-then-left-eq0-clause-begun g c =
    let xs = c.args.secondaries.now in
    let ys = c.each.secondaries in
    subst (λ (vs : List SecondaryState). AllZip (MayBegin c.args.now) xs vs) (sym (set-get_or ys c.each.place c.index-secondaries-place.result))
    (begun_before c.args.now xs ys c.each.place c.each.invariant.begun c.each.invariant.rest)

pub each-preserved : goal.each-preserved
each-preserved g c =
    let i = c.each.place in
    let xs = c.args.secondaries.now in
    let ys = c.each.secondaries in
    let x = get_or ys i c.index-secondaries-place.result in
    let y = c.begin_due.new.self in
    let lt : i < length ys = omega arith in
    let t : Turn xs ys i x y = turn xs ys i x y lt (omega arith) (get_or_default ys i c.index-secondaries-place.result x lt) c.each.invariant.rest in
    record {
      room = elim c.if-begin_due.branch [ then-begin_due w ↦ omega arith | else-begin_due w ↦ omega arith ];
      begun = begins_more c.args.now xs ys i x y t c.each.invariant.begun c.begin_due.ensures;
      rest = t.rest;
    }
