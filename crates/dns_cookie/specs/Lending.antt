-- What octets are after they were lent for writing.
use Rattle.std.specs.Prelude.{List, ℕ}
use Rattle.std.specs.Borrow.{Lends, MutBor, Fml, Array, u8, RattleType}
use Rattle.dns_cookie.specs.ClientCookie.{client_cookie_of}
use Rattle.dns_cookie.specs.declared.client_cookie.ClientCookie.{ClientCookie}
use Rattle.dns_cookie.specs.contracts.octet_array.OctetArray as octet_array
use Rattle.dns_cookie.specs.contracts.client_cookie.ClientCookie as client

-- the array ends as what is left after r
module _ (N : RattleType) (c : MutBor (octet_array.the_row N).Denot) where
  abbrev pub LendsCells : MutBor (List ℕ) → Fml
  LendsCells r = Lends (octet_array.the_row N) (Array u8 0) c r (λ octets. record { octets = octets })

-- a client cookie ends as the octets that are left after r
abbrev pub LendsClient : MutBor ClientCookie → MutBor (List ℕ) → Fml
LendsClient c r = Lends client.the_row (Array u8 0) c r client_cookie_of
