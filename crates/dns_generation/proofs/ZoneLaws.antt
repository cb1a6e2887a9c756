-- A zone of a file's text is that of the records which the text writes.
use Rattle.std.proofs.Common.{◌≡◌, ℕ, List, Ok, Err, ap, subst}
use Rattle.std.specs.Prelude.{IfErr, IfOk, Result}
use Rattle.dns_message.specs.declared.record.Record.{Record}
use Rattle.dns_authority.specs.declared.zone_data.ZoneData.{ZoneData}
use Rattle.dns_zone_file.specs.ZoneFile.{zone_file}
use Rattle.dns_generation.specs.declared.zone_text_error.ZoneTextError.{ZoneTextError}
use Rattle.dns_generation.specs.declared.zone_text_error.ZoneTextError.TheVariants.{Line, NotHashed, NotSigned, NotZone, OutOfMemory as NoMemory}
use Rattle.dns_generation.specs.Generations.{Denies, HasFault, IsWritten, IsZoneOf}

pub writes : (apex : List (List ℕ)) (text : List ℕ) (copy : List (List ℕ)) (records : List Record) (r : Result ZoneData ZoneTextError) → copy ≡ apex → zone_file apex text ≡ Ok records → IfOk r (IsZoneOf (record { apex = copy; records = records })) → IfOk r (IsWritten apex text)
writes apex text copy records (Ok d) e f h = (records, f, subst (λ (a : List (List ℕ)). IsZoneOf (record { apex = a; records = records }) d) e h)
writes apex text copy records (Err x) e f h = tt

has_fault : (apex : List (List ℕ)) (text : List ℕ) (records : List Record) (x : ZoneTextError) → zone_file apex text ≡ Ok records → Denies (record { apex = apex; records = records }) x → HasFault apex text x
has_fault apex text records (Line l r) f h = absurd h
has_fault apex text records (NotZone e) f h = (records, f, h)
has_fault apex text records (NotSigned e) f h = (records, f, h)
has_fault apex text records (NotHashed e) f h = (records, f, h)
has_fault apex text records NoMemory f h = tt

pub faults : (apex : List (List ℕ)) (text : List ℕ) (copy : List (List ℕ)) (records : List Record) (r : Result ZoneData ZoneTextError) → copy ≡ apex → zone_file apex text ≡ Ok records → IfErr r (Denies (record { apex = copy; records = records })) → IfErr r (HasFault apex text)
faults apex text copy records (Ok d) e f h = tt
faults apex text copy records (Err x) e f h = has_fault apex text records x f (subst (λ (a : List (List ℕ)). Denies (record { apex = a; records = records }) x) e h)
