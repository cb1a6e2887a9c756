-- Frame by frame.
use Rattle.std.proofs.Common.{ℕ, ◌+◌, ◌-◌, ◌^◌, List, min, ap, subst, sym, ◌∙◌}
use Rattle.dns_query_link.specs.QueryFrames.{AreOctets}
use Rattle.dns_query_link.proofs.Sifted.{fits, rest_octets, sifted_all, sifted_first, sifted_more}
use Rattle.dns_query_link.proofs.query_frames.sift.Goals as goal

pub each-init : goal.each-init
each-init c = sifted_first c.args.framer.now c.args.waiting.now.items c.requires

pub returns-in_err-message-clause-octets : goal.returns-in_err-message-clause-octets
returns-in_err-message-clause-octets c =
    let are : List ℕ → Type 0 = λ (o : List ℕ). AreOctets o in subst are (sym c.in_err-message.ensures.err) c.each.invariant.octets

pub returns-in_err-pass_on-clause-octets : goal.returns-in_err-pass_on-clause-octets
returns-in_err-pass_on-clause-octets c =
    let e = rw c.in-Some.is at c.in_ok-message.ensures.some in
    rest_octets c.each.framer c.in-Some.message.items c.next.new.self e.0 e.1 c.each.invariant.octets

pub pass_on-requires : goal.pass_on-requires
pass_on-requires c =
    let e = rw c.in-Some.is at c.in_ok-message.ensures.some in
    rw c.as_slice.ensures.value (fits c.each.framer c.in-Some.message.items c.next.new.self e.0 e.1 c.each.invariant.octets)

pub each-preserved : goal.each-preserved
each-preserved c =
    let e = rw c.in-Some.is at c.in_ok-message.ensures.some in
    let given = rw c.as_slice.ensures.value at c.in_ok-pass_on.ensures.given in
    let one = rw c.as_slice.ensures.value at c.in_ok-pass_on.ensures.dropped in
    sifted_more _ _ c.each.framer c.in-Some.message.items c.next.new.self c.each.waiting.items c.pass_on.new.waiting.items c.each.dropped c.saturating_add-dropped.result e.0 e.1 c.each.invariant given
    (c.saturating_add-dropped.ensures ∙ ap (λ (n : ℕ). min (c.each.dropped + n) (2 ^ 64 - 1)) one)

pub returns-clause-left : goal.returns-clause-left
returns-clause-left c =
    let e = rw c.in_default.is at c.in_ok-message.ensures.some in
    e.1 ∙ (sifted_all _ _ c.each.framer c.each.waiting.items c.each.dropped e.0 c.each.invariant).left

pub returns-clause-dropped : goal.returns-clause-dropped
returns-clause-dropped c =
    let e = rw c.in_default.is at c.in_ok-message.ensures.some in
    (sifted_all _ _ c.each.framer c.each.waiting.items c.each.dropped e.0 c.each.invariant).dropped_is
