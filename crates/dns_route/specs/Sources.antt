-- What a reply is composed of: a message that is read for it, or one that was built.
use Rattle.std.specs.Prelude.{ℕ, Bool, true, false, List, Ok}
use Rattle.dns_base.specs.Wire.{wire}
use Rattle.dns_route.specs.declared.reply.Source.{Source}
use Rattle.dns_route.specs.declared.reply.Source.TheVariants.{Read, Built as IsBuilt}
use Rattle.dns_route.specs.ReplyMessage.{Composes, ReplyState, reply_message}

-- the octets of that
abbrev pub source_octets : Source → List ℕ
source_octets (Read message) = message
source_octets (IsBuilt built) = wire built.message

-- a message that was built, if it is said to be the reply's, is what is built of the reply
abbrev pub KeepsBuilt : ReplyState → Source → Bool → Type 0
KeepsBuilt r source false = Unit {0}
KeepsBuilt r (Read message) true = Unit {0}
KeepsBuilt r (IsBuilt built) true = Composes (reply_message r) (Ok built)
