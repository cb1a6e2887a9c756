-- The OPT record of a server's replies: the size is the server's own (RFC 6891, section 6.2.3), and DO that of the request (RFC 3225,
-- section 3).
use Rattle.std.specs.Prelude.{ℕ, Bool, false, List, length, nat_le, if◌then◌else◌, Option, Some, None}
use Rattle.dns_base.specs.Msg.{Msg}
use Rattle.dns_base.specs.Wire.{wire}
use Rattle.dns_opt.specs.OptRecords.{OptHead, OptState, is_do, opt_of, opt_state, with_do}
use Rattle.dns_opt.specs.Reopened.{old_opt}
use Rattle.dns_replies.specs.WithOption.{one_opt}
use Rattle.dns_service.specs.Answer.{Answer, mapped}
use Rattle.dns_service.specs.Req.{Req}
use Rattle.dns_layers.specs.Edns.{has_opt}
use Rattle.dns_layers.specs.Rewritten.{rewritten}
use Rattle.dns_own_opt.specs.declared.rule.OwnOpt.{OwnOpt}

-- a head with this size and this DO
abbrev pub own_head : ℕ → Bool → OptHead → OptHead
own_head size dnssec h = record h { size = size; flags = with_do h.flags dnssec }

abbrev pub own_state : ℕ → Bool → OptState → OptState
own_state size dnssec s = opt_state (own_head size dnssec s.head) s.options

-- the message whose OPT record states these, its options as they were, however long it is
abbrev pub stating : ℕ → Bool → Msg → Msg
stating size dnssec m = record m { additional = one_opt m.additional (own_state size dnssec (old_opt m)) }

-- if it has at most 65,535 octets then
abbrev pub stated : ℕ → Bool → Msg → Msg
stated size dnssec m = if nat_le (length (wire (stating size dnssec m))) 65535 then stating size dnssec m else m

-- a reply that has an OPT record
abbrev pub own_opt : OwnOpt → Msg → Msg
own_opt p m = if has_opt m.additional then stated p.size p.dnssec_ok m else m

-- whether an OPT record of a request asks for DNSSEC records
abbrev pub asks_dnssec : Option OptState → Bool
asks_dnssec None = false
asks_dnssec (Some s) = is_do s.head.flags

-- the rule for the replies to a request
abbrev pub own_rule : ℕ → List ℕ → OwnOpt
own_rule size o = record { size = size; dnssec_ok = asks_dnssec (opt_of o) }

-- the answers of the service inside, each with such a record
abbrev pub with_own_opt : {Meta : Type 0} → ℕ → (Req Meta → ℕ → Answer) → Req Meta → ℕ → Answer
with_own_opt size answer r k = mapped (rewritten (own_opt (own_rule size r.octets))) (answer r k)
