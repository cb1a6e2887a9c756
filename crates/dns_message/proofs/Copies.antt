-- Copies of data.
use Rattle.std.proofs.Common.{◌≡◌, sym, subst}
use Rattle.std.specs.Prelude.{Result, Ok, Err, IfOk}
use Rattle.dns_message.specs.declared.rdata.RecordData.{RecordData}
use Rattle.dns_message.specs.Records.{IsLawful}

-- a copy of lawful data is lawful
pub lawful_copy : {E : Type 0} (r : Result RecordData E) (d : RecordData) → IfOk r (λ x. x ≡ d) → IsLawful d → IfOk r IsLawful
lawful_copy (Ok x) d e h = subst IsLawful (sym e) h
lawful_copy (Err e) d h k = tt
