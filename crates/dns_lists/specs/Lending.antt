-- What is written through a lent slice.
use Rattle.std.specs.Prelude.{ℕ, List}
use Rattle.std.specs.Borrow.{Lends, MutBor, Fml, Array, u8}
use Rattle.dns_name.specs.Lending.{overwritten, vector_row}
use Rattle.dns_name.specs.contracts.octet_store.VecU8HoldsOctets.TheImpl.{ghosts}
use Rattle.dns_lists.specs.Unknowns.{Unknown, unknown}
use Rattle.dns_lists.specs.contracts.key_tag.HeldKeyTag.{the_row as tag_row}
use Rattle.dns_lists.specs.contracts.unknown.HeldUnknown.{the_row as unknown_row}

-- the tags end as what is written
abbrev pub LendsTags : MutBor (List ℕ) → MutBor (List ℕ) → Fml
LendsTags s r = Lends (tag_row vector_row ghosts) (Array u8 0) s r (overwritten s.now)

-- the data ends as what is written
abbrev pub LendsData : MutBor Unknown → MutBor (List ℕ) → Fml
LendsData s r = Lends (unknown_row vector_row ghosts) (Array u8 0) s r (λ w. unknown s.now.code (overwritten s.now.octets w))
