-- How a zone is signed, as it is said of it.
use Rattle.std.specs.Prelude.{ℕ, ◌+◌, ◌*◌, [], List, Option, Some, None, slice_index}
use Rattle.std.specs.List.{find}
use Rattle.dns_message.specs.declared.record.Record.{Record}
use Rattle.dns_nsec_data.specs.NsecData.{unknown_octets}
use Rattle.dns_nsec3_data.specs.Nsec3Data.{is_used}
use Rattle.dns_authority.specs.declared.zone_data.ZoneData.{ZoneData}
use Rattle.dns_authority.specs.declared.zone_data.ZoneData.TheVariants.{Unsigned, Signed, Hashed}
use Rattle.dns_generation.specs.declared.signing.ZoneSigning.{ZoneSigning}
use Rattle.dns_generation.specs.declared.signing.ZoneSigning.TheVariants.{Unsigned as Bare, Nsec, Nsec3}

-- the iterations and the length of the salt: "Hash Alg. | Flags | Iterations | Salt Length | Salt" (RFC 5155, section 4.2)
abbrev pub said_by : List ℕ → ZoneSigning
said_by o = Nsec3 (256 * slice_index o 2 + slice_index o 3) (slice_index o 4)

abbrev pub hashed_by : Option Record → ZoneSigning
hashed_by None = said_by []
hashed_by (Some r) = said_by (unknown_octets r.rdata)

-- one with NSEC3 as its NSEC3PARAM record at the apex says, that has no flags (RFC 5155, section 4.1.2)
abbrev pub zone_signing : ZoneData → ZoneSigning
zone_signing (Unsigned z) = Bare
zone_signing (Signed s) = Nsec
zone_signing (Hashed s) = hashed_by (find (is_used s.zone.apex) s.zone.records)
