-- Numbers, octets and questions at a place of a message (RFC 1035, section 4.1.2): each is read as a value and the place after it.
use Rattle.std.specs.Prelude.{ℕ, ◌≡◌, ◌+◌, ◌*◌, List, [], ◌∷◌, length, take, drop, nat_lt, if◌then◌else◌, Result, Ok, Err}
use Rattle.std.specs.Borrow.{Bor}
use Rattle.dns_name.specs.declared.error.ParseError.{ParseError}
use Rattle.dns_name.specs.declared.error.ParseError.TheVariants.{ShortInput}
use Rattle.dns_name.specs.Place.{Read, be16}
use Rattle.dns_name.specs.Names.{name_at}
use Rattle.dns_message.specs.declared.question.Question.{Question}

-- what is read after what is read
infixl 10 ◌>>=◌
abbrev pub ◌>>=◌ : {A B : Type 0} → Read A → (A × ℕ → Read B) → Read B
(Ok x) >>= f = f x
(Err e) >>= f = Err e

abbrev pub two_of : ℕ → List ℕ → Read ℕ
two_of at [] = Err ShortInput
two_of at (a ∷ []) = Err ShortInput
two_of at (a ∷ b ∷ o) = Ok (be16 a b, at + 2)

-- a number of 16 bits
unfoldable pub two_at : List ℕ → ℕ → Read ℕ
two_at o at = two_of at (drop at o)

-- a number of 32 bits
unfoldable pub four_at : List ℕ → ℕ → Read ℕ
four_at o at = do
  high ← two_at o at
  low ← two_at o high.1
  Ok (65536 * high.0 + low.0, low.1)

-- that many octets
unfoldable pub octets_at : ℕ → List ℕ → ℕ → Read (List ℕ)
octets_at n o at = if nat_lt (length (drop at o)) n then Err ShortInput else Ok (take n (drop at o), at + n)

-- a question: name, type, class
unfoldable pub question_at : List ℕ → ℕ → Read Question
question_at o at = do
  qname ← name_at o at
  qtype ← two_at o qname.1
  qclass ← two_at o qtype.1
  Ok (record { qname = qname.0; qtype = qtype.0; qclass = qclass.0 }, qclass.1)

-- octets that are lent are what is read
abbrev pub Sees : Result (Bor (List ℕ) × ℕ) ParseError → Read (List ℕ) → Type 0
Sees (Ok x) read = read ≡ Ok (x.0.now, x.1)
Sees (Err e) read = read ≡ Err e
