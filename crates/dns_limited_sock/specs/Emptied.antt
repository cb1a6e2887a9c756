-- What is sent in place of a response that is truncated (RFC 1035, section 4.1.1; RFC 2181, section 9).
use Rattle.std.specs.Prelude.{ℕ, ◌≡◌, ◌<◌, ◌⊎◌, List, [], ◌∷◌, bit_or, length, take, Option, Some, None}
use Rattle.dns_message.specs.Plain.{QuestionsStand}

-- a header with TC, whose counts of records are 0, and the questions behind it
abbrev pub with_tc : List ℕ → Option (List ℕ)
with_tc (id ∷ id2 ∷ flags ∷ codes ∷ many ∷ questions ∷ an ∷ an2 ∷ ns ∷ ns2 ∷ ar ∷ ar2 ∷ rest) =
    Some (id ∷ id2 ∷ bit_or flags 2 ∷ codes ∷ many ∷ questions ∷ 0 ∷ 0 ∷ 0 ∷ 0 ∷ 0 ∷ 0 ∷ rest)
with_tc o = None

-- nothing takes the place of octets whose questions can't be read
abbrev pub IsEmptied : List ℕ → Option (List ℕ) → Type 0
IsEmptied o None = (length o < 12) ⊎ ((end : ℕ) → QuestionsStand o end → ⊥)
IsEmptied o (Some short) = (end : ℕ) × QuestionsStand o end × (with_tc (take end o) ≡ Some short)
