-- EXTENDED-ERROR (RFC 8914, section 2).
use Rattle.std.specs.Prelude.{◌≡◌, ℕ, ◌+◌, ◌<◌, ◌≤◌, List, [], ◌∷◌, ◌++◌, length, ◌≢◌, Option, Some, None, Result, Ok, Err, nat_lt, encode_utf8_all, if◌then◌else◌}
use Rattle.std.specs.Borrow.{Bor}
use Rattle.std.specs.Fmt.{decimal}
use Rattle.std.specs.Str.{IsUtf8}
use Rattle.bstr.specs.Utf8.{lossy_chars}
use Rattle.dns_name.specs.declared.error.ParseError.TheVariants.{ShortInput, Form}
use Rattle.dns_name.specs.declared.error.FormReason.TheVariants.{LongList}
use Rattle.dns_name.specs.declared.opt_error.BuildDataError.{BuildDataError}
use Rattle.dns_name.specs.declared.opt_error.BuildDataError.TheVariants.{LongOptData, WrongLength, ShortBuf, OutOfMemory as NoMemory}
use Rattle.dns_name.specs.OptData.{Taken}
use Rattle.dns_name.specs.Place.{be16, two}

-- a code, and a text if there is one
pub record Extended : Type 0 where
  pub code : ℕ
  pub text : Option (List ℕ)

abbrev pub extended : ℕ → Option (List ℕ) → Extended
extended c t = record { code = c; text = t }

-- the octets of a text
abbrev pub text_octets : Option (List ℕ) → List ℕ
text_octets None = []
text_octets (Some t) = t

-- with its code a text has at most 65,535 octets
abbrev pub TextFits : Option (List ℕ) → Type 0
TextFits t = length (text_octets t) ≤ 65533

-- no octets are no text
abbrev pub taken_text : List ℕ → Option (List ℕ)
taken_text [] = None
taken_text (x ∷ t) = Some (x ∷ t)

abbrev pub extended_of : List ℕ → Taken Extended
extended_of [] = Err ShortInput
extended_of (a ∷ []) = Err ShortInput
extended_of (a ∷ b ∷ t) = Ok (extended (be16 a b) (taken_text t), length t + 2)

abbrev pub extended_data : List ℕ → Taken Extended
extended_data d = if nat_lt 65535 (length d) then Err (Form LongList) else extended_of d

abbrev pub extended_octets : Extended → List ℕ
extended_octets k = two k.code ++ text_octets k.text

-- the text, or the octets that are none
abbrev pub ReadsText : Option (List ℕ) → Option (Result (Bor (List ℕ)) (Bor (List ℕ))) → Type 0
ReadsText None None = Unit {0}
ReadsText None (Some r) = ⊥
ReadsText (Some t) None = ⊥
ReadsText (Some t) (Some (Ok s)) = (s.now ≡ t) × IsUtf8 t
ReadsText (Some t) (Some (Err o)) = (o.now ≡ t) × ¬ (IsUtf8 t)

-- what comes of a code and a text that is copied
abbrev pub Copied : ℕ → List ℕ → Result Extended BuildDataError → Type 0
Copied c t (Ok k) = TextFits (Some t) × (k ≡ extended c (Some t))
Copied c t (Err LongOptData) = 65533 < length t
Copied c t (Err NoMemory) = TextFits (Some t)
Copied c t (Err (WrongLength a b)) = ⊥
Copied c t (Err ShortBuf) = ⊥

-- what comes of a code and a text that is taken
abbrev pub MadeExtended : {E : Type 0} → ℕ → Option (List ℕ) → Result Extended E → Type 0
MadeExtended c t (Ok k) = TextFits t × (k ≡ extended c t)
MadeExtended c t (Err e) = 65533 < length (text_octets t)

-- the text after a space, with U+FFFD for each part that is none
abbrev pub text_shown : Option (List ℕ) → List ℕ
text_shown None = []
text_shown (Some t) = 32 ∷ encode_utf8_all (lossy_chars t)

-- the code in decimal, and the text
abbrev pub extended_text : Extended → List ℕ
extended_text k = decimal k.code ++ text_shown k.text

-- the extended errors that come back: those without an empty text
abbrev pub IsExtended : Extended → Type 0
IsExtended k = TextFits k.text × (k.text ≢ Some [])
