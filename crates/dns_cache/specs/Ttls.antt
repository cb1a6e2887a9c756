-- How long a message may be kept (RFC 1035, sections 3.2.1 and 7.4): as long as each of its records. The TTL of an OPT record is
-- none (RFC 6891, section 6.1.3).
use Rattle.std.specs.Prelude.{ℕ, List, [], ◌∷◌, ◌++◌, map, min, fold, nat_lt, if◌then◌else◌, Option, Some, None}
use Rattle.dns_base.specs.Msg.{Msg, ResourceRecord}
use Rattle.dns_base.specs.Replaced.{other_than}

-- a TTL from 2^31 counts as 0 (RFC 2181, section 8)
abbrev pub counted_ttl : ResourceRecord → ℕ
counted_ttl r = if nat_lt r.ttl 2147483648 then r.ttl else 0

-- the smallest of numbers, 0 if there are none
abbrev pub smallest : List ℕ → ℕ
smallest [] = 0
smallest (n ∷ ns) = fold min n ns

-- the records of a message, section by section
abbrev pub records_of : Msg → List ResourceRecord
records_of m = m.answers ++ (m.authority ++ m.additional)

-- the least TTL in s of a message's records but OPT, 0 if it has none
abbrev pub least_ttl : Msg → ℕ
least_ttl m = smallest (map counted_ttl (other_than 41 (records_of m)))

-- the lesser of a number that may be there and another
abbrev pub lesser_of : Option ℕ → ℕ → ℕ
lesser_of None n = n
lesser_of (Some k) n = min k n
