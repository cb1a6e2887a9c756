-- The key tags of an option (RFC 8145, section 4.1).
use Rattle.std.specs.Prelude.{◌≡◌, ℕ, ◌%◌, ◌≤◌, List, [], ◌∷◌, length, Result, Ok, Err, nat_lt, nat_eq, if◌then◌else◌}
use Rattle.dns_name.specs.declared.error.ParseError.{ParseError}
use Rattle.dns_name.specs.declared.error.ParseError.TheVariants.{Form}
use Rattle.dns_name.specs.declared.error.FormReason.TheVariants.{LongList, OddLength}
use Rattle.dns_name.specs.OptData.{Taken, all_taken}
use Rattle.dns_name.specs.Place.{be16}

-- octets that are tags of two octets each
abbrev pub AreTags : List ℕ → Type 0
AreTags d = (length d ≤ 65535) × (length d % 2 ≡ 0)

-- the octets, or why they are no tags
abbrev pub tag_octets : List ℕ → Result (List ℕ) ParseError
tag_octets d = if nat_lt 65535 (length d) then Err (Form LongList) else (if nat_eq (length d % 2) 0 then Ok d else Err (Form OddLength))

abbrev pub tag_data : List ℕ → Taken (List ℕ)
tag_data d = all_taken d (tag_octets d)

-- the tags that octets are
abbrev pub tags : List ℕ → List ℕ
tags [] = []
tags (a ∷ []) = []
tags (a ∷ b ∷ d) = be16 a b ∷ tags d
