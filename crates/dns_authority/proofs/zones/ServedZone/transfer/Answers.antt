use Rattle.std.proofs.Common.{◌≡◌, ℕ, ◌+◌, ap, ◌∙◌, arith}
use Rattle.std.proofs.Math.Path.{fun_ext}
use Rattle.std.specs.Arc.{arc_value}
use Rattle.dns_authority.specs.Authorities.{ServedState, kept_bunches}
use Rattle.dns_authority.specs.ServedZones.{sent_of}
use Rattle.dns_transfer.specs.Transfers.{bunched, transfer_from, transfer_of, transfer_records}
use Rattle.dns_authority.proofs.BunchLaws.{bunches_are, bunches_none, bunches_there}
use Rattle.dns_authority.proofs.zones.ServedZone.transfer.Goals as goal

first : (k : ℕ) → 0 + k ≡ k
first k = omega arith

pub returns : goal.returns
returns g c =
    let z = sent_of c.args.self.now.zone c.args.self.now.signing in
    let o = c.args.request.now.octets in
    let kept = c.self.invariant ∙ ap (λ (x : ServedState). kept_bunches x.allowed (sent_of x.zone x.signing)) c.self.view_is in
    let there = bunches_there c.args.self.now.allowed z c.args.request.now _ c.requires kept in
    let b : arc_value c.in_ok-bunches-in-Some.bunches ≡ bunched (transfer_records z) = c.in_ok-bunches-in-Some.ensures ∙ bunches_are (λ x. arc_value x) c.self.inside.bunches c.in-Some.bunches (bunched (transfer_records z)) c.in-Some.is there in
    let q : arc_value c.in_ok-query-in-Some.query ≡ o = c.in_ok-query-in-Some.ensures ∙ c.message.ensures in
    c.new.ensures ∙ (ap (λ x. transfer_from x (arc_value c.in_ok-query-in-Some.query) 0) b ∙ (ap (λ x. transfer_from (bunched (transfer_records z)) x 0) q ∙ fun_ext (λ k. ap (transfer_of (bunched (transfer_records z)) o) (first k))))

pub unreachable-requires : goal.unreachable-requires
unreachable-requires g c =
    let z = sent_of c.args.self.now.zone c.args.self.now.signing in
    let kept = c.self.invariant ∙ ap (λ (x : ServedState). kept_bunches x.allowed (sent_of x.zone x.signing)) c.self.view_is in
    let there = bunches_there c.args.self.now.allowed z c.args.request.now _ c.requires kept in
    absurd (bunches_none (λ x. arc_value x) c.self.inside.bunches (bunched (transfer_records z)) c.in-None.is there)
