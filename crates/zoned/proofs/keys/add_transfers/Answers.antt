use Rattle.std.proofs.Common.{◌≡◌, List, subst}
use Rattle.dns_config.specs.declared.peer.AllowedNetwork.{AllowedNetwork}
use Rattle.dns_key_access.specs.Rules.{AreAccesses}
use Rattle.zoned.specs.Keys.{rules_of}
use Rattle.zoned.proofs.Judged.{added_judges}
use Rattle.zoned.proofs.keys.add_transfers.Goals as goal

pub returns-clause-judged : goal.returns-clause-judged
returns-clause-judged c = λ wanted.
    let allowed = c.in_ok-allowed.allowed.items in
    added_judges (AreAccesses c.args.keys.now (rules_of c.args.for_all.now c.args.entry.now)) c.args.entry.now.name.name allowed c.args.zones.now.items c.push_zone.new.zones.items c.in_ok-push_zone.ensures
    (subst (λ (rules : List AllowedNetwork). AreAccesses c.args.keys.now rules allowed) c.rules_of-rules.ensures c.in_ok-allowed.ensures)
