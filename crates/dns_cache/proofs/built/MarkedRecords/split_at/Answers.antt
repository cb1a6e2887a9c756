use Rattle.std.proofs.Common.{◌≡◌, ◌-◌, length, take, ap, ◌∙◌}
use Rattle.dns_cache.specs.Marks.{marked_size}
use Rattle.dns_cache.proofs.BuiltLaws.{parts}
use Rattle.dns_cache.proofs.built.MarkedRecords.split_at.Goals as goal

pub returns : goal.returns
returns c = λ xs ys l t.
    let o = c.args.self.octets.now in
    let ks = c.args.self.marks.now in
    let size : length o - c.start_before.result ≡ length o - (length o - marked_size (take c.args.count ks)) =
    ap (λ n. length o - n) (c.start_before.ensures ∙ ap (λ l. length o - marked_size l) c.split_at.ensures.front) in
    let p = parts xs ys ks o c.args.count (length o - c.start_before.result) l size t in
    ((c.split_at.ensures.front ∙ p.0.0, c.split_at-2.ensures.front ∙ p.0.1), (c.split_at.ensures.back ∙ p.1.0, c.split_at-2.ensures.back ∙ p.1.1))
