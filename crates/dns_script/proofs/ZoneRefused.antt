-- If the records of a zone make none, its line is refused.
use Rattle.std.proofs.Common.{ap}
use Rattle.std.specs.Prelude.{Option, Err}
use Rattle.dns_trace.specs.Reading.{Fails}
use Rattle.dns_zone.specs.Owned.{ZoneState}
use Rattle.dns_zone.specs.ZoneErrors.{Makes}
use Rattle.dns_zone.specs.declared.error.ZoneError.{ZoneError}
use Rattle.dns_zone.specs.declared.error.ZoneError.TheVariants.{Outside, Class, Opt, Soa, SoaPlace, Cname, OutOfMemory as NoMemory}
use Rattle.dns_script.specs.Draft.{ZoneSaid, made_zone, zone_refused}

pub zone_fails : (z : ZoneSaid) (cause : Option ZoneError) (made : ZoneState) (e : ZoneError) → Makes cause made (Err e) → Fails (zone_refused e) (made_zone z cause)
zone_fails z cause made NoMemory h = tt
zone_fails z cause made (Outside i) h = ap (made_zone z) h
zone_fails z cause made (Class i) h = ap (made_zone z) h
zone_fails z cause made (Opt i) h = ap (made_zone z) h
zone_fails z cause made (Soa n) h = ap (made_zone z) h
zone_fails z cause made (SoaPlace i) h = ap (made_zone z) h
zone_fails z cause made (Cname i) h = ap (made_zone z) h
