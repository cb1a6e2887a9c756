-- An OPT record as a message's last (RFC 6891, section 6.1.1).
use Rattle.std.specs.Prelude.{[], ◌∷◌, ◌++◌, Option, Some, None}
use Rattle.dns_base.specs.Msg.{Msg}
use Rattle.dns_replies.specs.OptRecords.{OptState, opt_record}

-- the message with an OPT record last, if there is one
abbrev pub and_opt : Msg → Option OptState → Msg
and_opt m None = m
and_opt m (Some s) = record m { additional = m.additional ++ opt_record s ∷ [] }
