-- How a builder keeps its message: after two octets for its length (RFC 1035, section 4.2.2).
use Rattle.std.specs.Prelude.{ℕ, Result, Ok, ◌≡◌, ◌+◌, ◌/◌, ◌%◌, ◌≤◌, List, ◌++◌, length, drop, slice_set}
use Rattle.dns_name.specs.Place.{two}
use Rattle.dns_base.specs.declared.draft.Section.{Section}
use Rattle.dns_base.specs.declared.draft.Section.TheVariants.{Answer, Authority, Additional}
use Rattle.dns_base.specs.declared.draft.Starts.{Starts}
use Rattle.dns_name.specs.declared.error.ParseError.{ParseError}
use Rattle.dns_base.specs.Sections.{questions_of, answers_of, authority_of}
use Rattle.dns_base.specs.Built.{IsBuilt}

-- octets with a number of two octets at a place
abbrev pub counted : ℕ → ℕ → List ℕ → List ℕ
counted at n o = slice_set (slice_set o at (n / 256)) (at + 1) (n % 256)

-- where the count of a section of records stands
abbrev pub count_place : Section → ℕ
count_place Answer = 6
count_place Authority = 8
count_place Additional = 10

-- where a section of records begins
abbrev pub start_of : Section → List ℕ → Result ℕ ParseError
start_of Answer o = (questions_of o).1
start_of Authority o = (answers_of o).1
start_of Additional o = (authority_of o).1

-- where a builder keeps that a section begins
abbrev pub start_in : Starts → Section → ℕ
start_in s Answer = s.answer
start_in s Authority = s.authority
start_in s Additional = s.additional

-- all sections of records at one place
abbrev pub all_at : ℕ → Starts
all_at n = record { answer = n; authority = n; additional = n }

-- the sections after one at a place
abbrev pub moved_behind : Starts → Section → ℕ → Starts
moved_behind s Answer n = record s { authority = n; additional = n }
moved_behind s Authority n = record s { additional = n }
moved_behind s Additional n = s

-- places at which the sections of records begin in octets
abbrev pub AreStarts : Starts → List ℕ → Type 0
AreStarts s o = (section : Section) → start_of section o ≡ Ok (start_in s section)

-- octets and a limit that are a builder's
pub record IsDraft (o : List ℕ) (limit : ℕ) : Type 0 where
  pub framed : 2 ≤ length o
  pub built : IsBuilt (drop 2 o)
  pub limited : limit ≤ 65535

-- octets that are a message after its length
pub record IsFrame (o : List ℕ) : Type 0 where
  pub framed : o ≡ two (length (drop 2 o)) ++ drop 2 o
  pub short : length (drop 2 o) ≤ 65535
