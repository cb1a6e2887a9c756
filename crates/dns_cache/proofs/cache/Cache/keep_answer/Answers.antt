use Rattle.dns_cache.proofs.KeyLaws.{key_asks_once}
use Rattle.dns_cache.proofs.cache.Cache.keep_answer.Goals as goal

pub kept_turn-requires : goal.kept_turn-requires
kept_turn-requires c = key_asks_once c.args.request.now.octets c.args.key c.requires
