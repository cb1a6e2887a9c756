use Rattle.std.proofs.Common.{◌++◌, List, subst, sym}
use Rattle.std.specs.List.{AllZip}
use Rattle.dns_zone_copies.specs.Looking.{MayBegin}
use Rattle.dns_zone_copies.specs.Secondaries.{SecondaryState}
use Rattle.dns_zone_copies.proofs.Looks.{both_begin, none_begin}
use Rattle.dns_zone_copies.proofs.copies.begin_from.Goals as goal

pub returns-then-left-eq0 : goal.returns-then-left-eq0
returns-then-left-eq0 g c =
    let first = c.split_at_mut-first.result.0.now in
    let last = c.begin_checks-count.new.secondaries in
    subst (λ (vs : List SecondaryState). AllZip (MayBegin c.args.now) vs (first ++ last)) (sym c.split_at_mut-first.ensures.value)
    (both_begin c.args.now first first c.split_at_mut-first.result.1.now last (none_begin c.args.now first) c.begin_checks-count.ensures.begun)

pub returns : goal.returns
returns g c =
    let first = c.begin_checks-count-2.new.secondaries in
    let last = c.begin_checks-count.new.secondaries in
    subst (λ (vs : List SecondaryState). AllZip (MayBegin c.args.now) vs (first ++ last)) (sym c.split_at_mut-first.ensures.value)
    (both_begin c.args.now c.split_at_mut-first.result.0.now first c.split_at_mut-first.result.1.now last c.begin_checks-count-2.ensures.begun c.begin_checks-count.ensures.begun)
