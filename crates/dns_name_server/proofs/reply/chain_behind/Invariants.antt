use Rattle.std.proofs.Common.{◌≡◌}
use Rattle.dns_name_server.specs.NameServerReplies.{name_server_reply, reply_from}
use Rattle.dns_name_server.specs.Steps.{behind, wired}
use Rattle.dns_name_server.proofs.reply.chain_behind.Given as goal

abbrev pub invariant-names : goal.invariant-names
invariant-names l = behind l.given (wired (reply_from l.zone l.rtype l.left l.seen.items l.name)) ≡ wired (name_server_reply l.zone l.question)

abbrev pub decreases-names : goal.decreases-names
decreases-names l = l.left
