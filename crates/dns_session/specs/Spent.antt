-- A client whose events change nothing any more, and which is sent nothing for them: an exchange of which each request is done,
-- and a closed connection that was released.
use Rattle.std.specs.Prelude.{Bool, false}
use Rattle.std.specs.List.{list_all}
use Rattle.dns_session.specs.Slate.{Slate, Phase, Exchange, Closed}

abbrev pub is_spent_in : Phase → Slate → Bool
is_spent_in Exchange s = list_all (λ r. r.done) s.requests
is_spent_in Closed s = s.freed
is_spent_in _ s = false

abbrev pub is_spent : Slate → Bool
is_spent s = is_spent_in s.phase s
