-- What is written through a lent slice.
use Rattle.std.specs.Prelude.{ℕ, List, ◌++◌, length, take, drop}
use Rattle.std.specs.Borrow.{Lends, MutBor, Fml, Array, RattleType, u8}
use Rattle.std.specs.declared.alloc.Global.{Global}
use Rattle.std.specs.declared.vec.Vec.{Vec}
use Rattle.std.specs.contracts.alloc.Global as global
use Rattle.std.specs.contracts.vec.Vec as vec
use Rattle.std.specs.contracts.impls.GlobalAllocator.TheImpl.{ghosts}
use Rattle.dns_name.specs.contracts.octet_store.OctetStore as held
use Rattle.dns_name.specs.contracts.octet_store.VecU8HoldsOctets.TheImpl as holding

-- a vector of octets as the logic holds it
abbrev pub vector_row : RattleType
vector_row = vec.the_row u8 global.the_row ghosts

-- octets after others are written over those in front, as many as there are
abbrev pub overwritten : List ℕ → List ℕ → List ℕ
overwritten d w = take (length d) (w ++ drop (length w) d)

-- the octets end as what is written
abbrev pub LendsOctets : MutBor (List ℕ) → MutBor (List ℕ) → Fml
LendsOctets s r = Lends (held.the_row vector_row holding.ghosts) (Array u8 0) s r (overwritten s.now)

-- the octets end as the vector's
abbrev pub LendsVector : MutBor (List ℕ) → MutBor (Vec ℕ Global) → Fml
LendsVector s r = Lends (held.the_row vector_row holding.ghosts) vector_row s r (λ v. v.items)
