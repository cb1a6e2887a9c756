-- The identifier of a name server in the replies to requests that ask for it (RFC 5001, section 2).
use Rattle.std.specs.Prelude.{ℕ, Bool, false, List, Option, Some, None, is_some, if◌then◌else◌}
use Rattle.dns_name.specs.OptData.{list_data}
use Rattle.dns_base.specs.Msg.{Msg}
use Rattle.dns_opt.specs.Items.{first_ok, items_of}
use Rattle.dns_opt.specs.OptData.{for_code}
use Rattle.dns_opt.specs.OptRecords.{OptState, opt_of}
use Rattle.dns_service.specs.Answer.{Answer}
use Rattle.dns_service.specs.Cut.{sized}
use Rattle.dns_service.specs.Req.{Req}
use Rattle.dns_rewriting.specs.Rewritings.{rewritten_replies}
use Rattle.dns_reply_options.specs.Carried.{and_option}

-- whether an OPT record of a request asks for the identifier
abbrev pub asks_nsid : Option OptState → Bool
asks_nsid None = false
asks_nsid (Some s) = is_some (first_ok (items_of (for_code 3 list_data) s.options))

-- the identifier of the replies to a request, if there is one and it is asked for
abbrev pub nsid_for : {Meta : Type 0} → Option (List ℕ) → Req Meta → Option (List ℕ)
nsid_for nsid r = if asks_nsid (opt_of r.octets) then nsid else None

-- a reply with an identifier
abbrev pub with_nsid : List ℕ → Msg → Msg
with_nsid nsid m = and_option (for_code 3 list_data) 3 nsid m

-- cut if it has no room
abbrev pub nsid_by : List ℕ → Option ℕ → Msg → Msg
nsid_by nsid n m = sized n (with_nsid nsid m)

-- the answers of the service inside, each reply with that identifier
abbrev pub nsids : {Meta : Type 0} → Option (List ℕ) → (Req Meta → ℕ → Answer) → (Req Meta → Option ℕ) → Req Meta → ℕ → Answer
nsids nsid answer hint r = rewritten_replies nsid_by (nsid_for nsid r) answer hint r
