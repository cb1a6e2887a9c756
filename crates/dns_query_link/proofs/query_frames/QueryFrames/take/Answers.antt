-- What is moved to the buffer, and what is left, are what waited.
use Rattle.std.proofs.Common.{◌≡◌, ◌-◌, ◌≤◌, drop, length, take, arith, rules}
use Rattle.dns_query_link.proofs.Sifted.{moved}
use Rattle.dns_query_link.proofs.query_frames.QueryFrames.take.Goals as goal

pub returns-clause-moved : goal.returns-clause-moved
returns-clause-moved c =
    let w = c.self.inside.waiting.items in
    let d = c.deref.result.now in
    let at = c.self.inside.at in
    let n = c.min-count.result in
    let room : n ≤ length (take (length d - at) (drop at d)) = omega arith in
    let is : c.args.self.now.waiting ≡ drop at w = search rules in
    let same : c.copy_from_slice.new.self ≡ take n (take (length d - at) (drop at d)) = search rules in
    moved at n w d c.args.buf.now c.copy_from_slice.new.self c.args.self.now.waiting c.deref.ensures.value is room same
