-- What is said of the copies of a server.
use Rattle.std.specs.Prelude.{ℕ, ◌≡◌, ◌++◌, Bool, true, false, List, [], ◌∷◌, Option, Some, None, codes, decimal}
use Rattle.dns_name.specs.NameText.{name_text}
use Rattle.dns_secondary.specs.declared.timers.SoaTimers.{SoaTimers}
use Rattle.dns_zone_copies.specs.Secondaries.{SecondaryState}

-- whether its primary is asked at this moment
abbrev pub check_text : Bool → List ℕ
check_text true = codes ", which is asked now"
check_text false = []

-- the serial of its copy
abbrev pub copy_text : Option SoaTimers → List ℕ
copy_text None = codes ", no copy"
copy_text (Some t) = codes ", serial " ++ decimal t.serial.0

-- its zone, and its primary, whose address is written so
abbrev pub zone_text : SecondaryState → List ℕ → Bool → List ℕ
zone_text s primary asked = codes "secondary " ++ name_text s.apex ++ codes " of " ++ primary ++ check_text asked

-- the line of a secondary
abbrev pub line_text : SecondaryState → List ℕ → Bool → List ℕ
line_text s primary asked = zone_text s primary asked ++ copy_text s.copy.held ++ 10 ∷ []

-- a line of a secondary is after others
pub record AddsLine (s : SecondaryState) (old new : List ℕ) : Type 0 where
  pub primary : List ℕ
  pub asked : Bool
  pub added : new ≡ old ++ line_text s primary asked

-- a line for each, in their order
abbrev pub Reports : List SecondaryState → List ℕ → Type 0
Reports [] text = text ≡ []
Reports (s ∷ ss) text =
    (primary : List ℕ) × (asked : Bool) × (others : List ℕ) × (text ≡ line_text s primary asked ++ others) × Reports ss others
