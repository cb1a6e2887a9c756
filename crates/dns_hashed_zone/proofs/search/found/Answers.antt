use Rattle.std.proofs.Common.{ℕ, List, sym, subst, ◌∙◌, arith}
use Rattle.dns_hashed_zone.proofs.PlaceLaws.{GoesUp, ends_up, goes_up, never_ends, start_up}
use Rattle.dns_hashed_zone.proofs.search.found.Goals as goal

pub returns-then-own : goal.returns-then-own
returns-then-own c = (sym c.in_ok-own.ensures.matched ∙ c.if-own.true, c.in_ok-own.ensures.place)

pub labels-init : goal.labels-init
labels-init c =
    let h = c.args.hashing.now in
    let ns = c.args.nsecs.now in
    let name = c.args.name.now in
    subst (λ (x : List (List ℕ)). GoesUp h ns name x c.in_ok-own.own.place) (sym c.behind-left.ensures) (start_up h ns name c.in_ok-own.own.place c.in_ok-own.ensures.place (sym c.in_ok-own.ensures.matched ∙ c.if-own.false))

pub returns-then-near : goal.returns-then-near
returns-then-near c =
    let e = ends_up c.args.hashing.now c.args.nsecs.now c.args.name.now c.labels.left c.behind-above.result c.labels.next c.in_ok-near.near.place (omega (arith, c.labels-test.true, c.label_count.ensures)) c.behind-above.ensures c.labels.invariant
    c.in_ok-near.ensures.place (sym c.in_ok-near.ensures.matched ∙ c.if-near.true) in
    (sym c.in_ok-own.ensures.matched ∙ c.if-own.false, e.above_, e.encloser_, e.next_)

pub labels-preserved : goal.labels-preserved
labels-preserved c =
    goes_up c.args.hashing.now c.args.nsecs.now c.args.name.now c.labels.left c.behind-above.result c.labels.next c.in_ok-near.near.place (omega (arith, c.labels-test.true, c.label_count.ensures)) c.behind-above.ensures c.labels.invariant
    c.in_ok-near.ensures.place (sym c.in_ok-near.ensures.matched ∙ c.if-near.false)

pub unreachable-requires : goal.unreachable-requires
unreachable-requires c = never_ends c.args.hashing.now c.args.nsecs.now c.args.name.now c.labels.left c.labels.next (omega (arith, c.labels-test.false, c.label_count.ensures)) c.labels.invariant c.requires.above
