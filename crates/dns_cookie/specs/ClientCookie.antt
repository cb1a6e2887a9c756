-- What a client cookie shows: its octets (RFC 7873, section 4.1).
use Rattle.std.specs.Prelude.{List, ℕ}
use Rattle.dns_cookie.specs.declared.client_cookie.ClientCookie.{ClientCookie}

abbrev pub client_octets : ClientCookie → List ℕ
client_octets c = c.cells.octets

-- the client cookie of octets
abbrev pub client_cookie_of : List ℕ → ClientCookie
client_cookie_of octets = record { cells = record { octets = octets } }
