use Rattle.std.proofs.Common.{◌≡◌, length}
use Rattle.dns_limited_sock.specs.Kinds.{kind_among}
use Rattle.dns_limited_sock.proofs.reply_kind.kind_of_authority.Given as goal

abbrev pub invariant-walk : goal.invariant-walk
invariant-walk l = kind_among l.left ≡ kind_among l.fn.records

abbrev pub decreases-walk : goal.decreases-walk
decreases-walk l = length l.left
