use Rattle.std.proofs.Common.{◌≡◌, ℕ, fold, ap, ◌∙◌}
use Rattle.std.specs.Hash as fed
use Rattle.dns_name.specs.Labels.{spell}
use Rattle.dns_cache.specs.Keys.{AskedKey}
use Rattle.dns_cache.proofs.key.CacheKeyHash.hash.Goals as goal

pub returns : goal.returns
returns g c =
    let written = g.H.Hasher.write c.args.state.now in
    let name : c.write.new.self ≡ written (spell c.args.self.now.name) = c.write.ensures ∙ ap written (c.as_slice.ensures ∙ (c.self.invariant.whole ∙ ap (λ (k : AskedKey). spell k.name) c.self.view_is)) in
    c.hash.ensures
    ∙ (ap (λ s. fold g.H.Hasher.write s (fed.u16 c.to_int.result)) name
    ∙ ap (λ (n : ℕ). fold g.H.Hasher.write (written (spell c.args.self.now.name)) (fed.u16 n)) (c.to_int.ensures.value ∙ ap (λ (k : AskedKey). k.qtype) c.self.view_is))
