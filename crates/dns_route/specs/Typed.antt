-- Records that were written of typed data (RFC 1035, sections 3.2.1 and 3.3).
use Rattle.std.specs.Prelude.{◌≡◌, false, List, [], ◌∷◌, nat_eq}
use Rattle.std.specs.List.{list_any}
use Rattle.dns_message.specs.declared.record.Record.{Record}
use Rattle.dns_message.specs.TypedData.{IsTyped}
use Rattle.dns_base.specs.Msg.{Msg, ResourceRecord}
use Rattle.dns_base.specs.Records.{record_of}

abbrev pub AreTyped : List ResourceRecord → Type 0
AreTyped [] = Unit {0}
AreTyped (x ∷ xs) = ((r : Record) × IsTyped r.rdata × (record_of r ≡ x)) × AreTyped xs

-- a message of such records, without OPT records in its additional section
pub record IsTypedMessage (m : Msg) : Type 0 where
  pub answers : AreTyped m.answers
  pub authority : AreTyped m.authority
  pub additional : AreTyped m.additional
  pub bare : list_any (λ (r : ResourceRecord). nat_eq r.rtype 41) m.additional ≡ false
