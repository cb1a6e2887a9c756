-- What one call of a service gives: a reply, a feedback or both.
use Rattle.std.specs.Prelude.{Option, Some, None}
use Rattle.dns_base.specs.Built.{Built}
use Rattle.dns_base.specs.Msg.{Msg}
use Rattle.dns_service.specs.declared.service.ServiceFeedback.{ServiceFeedback}

pub record Given : Type 0 where
  pub response : Option Msg
  pub feedback : Option ServiceFeedback

-- one of two is there, or both are
abbrev pub IsThere : {A : Type 0} → Option A → Type 0
IsThere None = ⊥
IsThere (Some x) = Unit {0}

abbrev pub IsEither : {A B : Type 0} → Option A → Option B → Type 0
IsEither reply None = IsThere reply
IsEither reply (Some feedback) = Unit {0}

-- the message that a builder holds, whatever its limit
abbrev pub message_in : Option Built → Option Msg
message_in None = None
message_in (Some b) = Some b.message
