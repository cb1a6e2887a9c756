use Rattle.std.proofs.Common.{◌≤◌, ◌<◌, length, ap, subst, ◌∙◌}
use Rattle.lru.specs.LruCache.{lru_cache, put_entries}
use Rattle.dns_cache.specs.AskedCache.{Cached}
use Rattle.dns_cache.specs.Keys.{same_key}
use Rattle.dns_cache.proofs.EntryLaws.{put_is_kept}
use Rattle.dns_cache.proofs.cache.Cache.put.Goals as goal

pub returns-clause-ok : goal.returns-clause-ok
returns-clause-ok c =
    let v = c.len-len.ensures.valid in
    let l : length c.args.self.now.entries ≤ c.args.self.now.cap = subst (λ (x : Cached). length x.entries ≤ x.cap) c.self.view_is v.1 in
    let p : 0 < c.args.self.now.cap = subst (λ (x : Cached). 0 < x.cap) c.self.view_is v.2 in
    c.in_ok-put.ensures.entries ∙ (ap (λ (x : Cached). lru_cache (put_entries same_key x c.args.key c.args.kept) x.cap) c.self.view_is ∙ put_is_kept c.args.key c.args.self.now c.args.kept l p)
