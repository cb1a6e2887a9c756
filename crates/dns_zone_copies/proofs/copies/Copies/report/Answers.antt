use Rattle.std.proofs.Common.{◌≡◌, ◌<◌, List, ap, arith, get_or, length, string_bytes, subst}
use Rattle.dns_zone_copies.specs.Secondaries.{SecondaryState}
use Rattle.dns_zone_copies.proofs.Reported.{says_all, says_more}
use Rattle.dns_zone_copies.proofs.copies.Copies.report.Goals as goal

pub each-preserved : goal.each-preserved
each-preserved c =
    let ss = c.args.self.now.secondaries.items in
    let i = c.each.secondary-index in
    let s = c.secondary-item.result in
    let same : c.deref-secondary-items.result.now ≡ ss = c.deref-secondary-items.ensures.value in
    let many : length c.deref-secondary-items.result.now ≡ length ss = ap length same in
    let lt : i < length ss = omega arith in
    let is : s ≡ get_or ss i s = subst (λ (vs : List SecondaryState). s ≡ get_or vs i s) same c.secondary-item.is in
    says_more ss i s (string_bytes c.each.text) (string_bytes c.push_line.new.text) lt is c.in_ok-push_line.ensures c.each.invariant

pub returns : goal.returns
returns c =
    let ss = c.args.self.now.secondaries.items in
    let many : length c.deref-secondary-items.result.now ≡ length ss = ap length c.deref-secondary-items.ensures.value in
    says_all ss c.each.secondary-index (string_bytes c.each.text) (omega arith) c.each.invariant
