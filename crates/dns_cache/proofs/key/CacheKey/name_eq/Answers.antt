use Rattle.std.proofs.Common.{◌==◌, ap, ◌∙◌}
use Rattle.std.specs.Cmp.Lexicographic.{pointwise}
use Rattle.dns_name.specs.Names.{labels_of, uncompressed_at}
use Rattle.dns_cache.specs.Keys.{AskedKey}
use Rattle.dns_cache.proofs.KeyLaws.{same_octets}
use Rattle.dns_cache.proofs.key.CacheKey.name_eq.Goals as goal

pub returns : goal.returns
returns c =
    let o = c.self.inside.octets.items in
    let p = c.other.inside.octets.items in
    c.eq.ensures
    ∙ (same_octets o p c.self.invariant c.other.invariant
    ∙ (ap (λ (k : AskedKey). pointwise (pointwise ◌==◌) k.name (labels_of (uncompressed_at p 0))) c.self.view_is
    ∙ ap (λ (k : AskedKey). pointwise (pointwise ◌==◌) c.args.self.now.name k.name) c.other.view_is))
