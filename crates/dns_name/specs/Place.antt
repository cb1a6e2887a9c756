-- A place in octets, what is read there, and numbers of two and four octets in network order (RFC 1035, section 2.3.2).
use Rattle.std.specs.Prelude.{ℕ, ◌≡◌, ◌+◌, ◌*◌, ◌/◌, ◌%◌, ◌≤◌, ◌<◌, Bool, true, false, List, [], ◌∷◌, ◌++◌, length, drop, Result, Ok, Err}
use Rattle.dns_name.specs.declared.error.ParseError.{ParseError}

-- a number of 16 bits as two octets
abbrev pub two : ℕ → List ℕ
two n = n / 256 ∷ n % 256 ∷ []

-- a number of 32 bits as four octets
abbrev pub four : ℕ → List ℕ
four n = two (n / 65536) ++ two (n % 65536)

-- the number that two octets are
abbrev pub be16 : ℕ → ℕ → ℕ
be16 a b = 256 * a + b

-- the number that four octets are
abbrev pub be32 : ℕ → ℕ → ℕ → ℕ → ℕ
be32 a b c d = 65536 * be16 a b + be16 c d

-- a place in octets
pub record Place : Type 0 where
  pub octets : List ℕ
  pub at : ℕ

-- what is left at a place
abbrev pub rest : Place → List ℕ
rest p = drop p.at p.octets

-- the place that many octets further
abbrev pub moved : ℕ → Place → Place
moved n p = record { octets = p.octets; at = p.at + n }

-- n octets are taken if as many are left; if fewer are, the place stays
abbrev pub TakesOctets : ℕ → Bool → Place → Place → Type 0
TakesOctets n true old new = (n ≤ length (rest old)) × (new ≡ moved n old)
TakesOctets n false old new = (length (rest old) < n) × (new ≡ old)

-- what is read is a value and the place after it, or a refusal
abbrev pub Read : Type 0 → Type 0
Read A = Result (A × ℕ) ParseError

-- a call gives what is read and goes after it; a refused call leaves the place
abbrev pub Parses : {A : Type 0} → Result A ParseError → Place → Place → Read A → Type 0
Parses (Ok x) old new read = (read ≡ Ok (x, new.at)) × (new.octets ≡ old.octets)
Parses (Err e) old new read = (read ≡ Err e) × (new ≡ old)
