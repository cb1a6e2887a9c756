-- The size of replies over UDP to requests without EDNS (RFC 1035, section 4.2.1).
use Rattle.std.specs.Prelude.{ℕ, Option, Some, None, if◌then◌else◌}
use Rattle.dns_service.specs.declared.asked.AskedOpt.{AskedOpt}
use Rattle.dns_service.specs.Answer.{Answer}
use Rattle.dns_service.specs.Asked.{asked_of, has_item}
use Rattle.dns_service.specs.Req.{Req}
use Rattle.dns_service.specs.Transport.{hint_of}
use Rattle.dns_layers.specs.Edns.{passed_by, transport_by}

-- messages over UDP are restricted to 512 octets, unless an OPT record says how many more there may be (RFC 6891, section 6.2.3)
abbrev pub classic_size : AskedOpt → Option ℕ
classic_size opt = if has_item opt then None else Some 512

abbrev pub size_of : {Meta : Type 0} → Req Meta → Option ℕ
size_of r = classic_size (asked_of r.octets).opt

-- the answers of the service inside to the request as it is passed on with this size
abbrev pub classic : {Meta : Type 0} → (Req Meta → ℕ → Answer) → Req Meta → ℕ → Answer
classic answer r = answer (passed_by (size_of r) r)

abbrev pub classic_hint : {Meta : Type 0} → Req Meta → Option ℕ
classic_hint r = hint_of (transport_by (size_of r) r.transport)
