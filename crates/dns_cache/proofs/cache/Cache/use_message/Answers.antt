use Rattle.std.proofs.Common.{◌≡◌, true, false, ap, sym, ◌∙◌}
use Rattle.std.specs.Prelude.{is_some}
use Rattle.lru.specs.LruCache.{lru_cache, promoted}
use Rattle.dns_cache.specs.AskedCache.{Cached}
use Rattle.dns_cache.specs.Keys.{same_key}
use Rattle.dns_cache.proofs.EntryLaws.{promoted_is_used}
use Rattle.dns_cache.proofs.KeyLaws.{asks_this, key_asks_once}
use Rattle.dns_cache.proofs.ReplyLaws.{used_none, used_some}
use Rattle.dns_cache.proofs.cache.Cache.use_message.Goals.{then-is_some, else-is_some}
use Rattle.dns_cache.proofs.cache.Cache.use_message.Goals as goal

pub aged_message-requires : goal.aged_message-requires
aged_message-requires c = asks_this c.args.request.now.octets c.args.question.now (key_asks_once c.args.request.now.octets c.args.key.now c.requires.key) c.requires.asked

pub returns-clause-used : goal.returns-clause-used
returns-clause-used c =
    let r = c.in_ok-built.built in
    let key = c.args.key.now in
    let s = c.args.self.now in
    elim c.if-is_some.branch [
      | then-is_some w ↦
          let t : is_some r ≡ true = sym c.is_some.ensures ∙ w.if-is_some.true in
          w.self-is ∙ (w.promote.ensures.entries ∙ (ap (λ (x : Cached). lru_cache (promoted (same_key key) x.entries) x.cap) c.self.view_is ∙ (promoted_is_used key s ∙ sym (used_some r key s t))))
      | else-is_some w ↦
          let t : is_some r ≡ false = sym c.is_some.ensures ∙ w.if-is_some.false in
          w.self-is ∙ sym (used_none r key s t)
    ]
