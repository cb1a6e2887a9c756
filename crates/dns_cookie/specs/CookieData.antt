-- The data of a COOKIE option, read and written (RFC 7873, section 4).
use Rattle.std.specs.Prelude.{ℕ, ◌+◌, List, [], ◌∷◌, ◌++◌, length, take, drop, Option, Some, None, Ok, Err, IfSome, ◌≡◌, ◌≤◌, nat_lt, if◌then◌else◌}
use Rattle.dns_name.specs.declared.error.ParseError.TheVariants.{ShortInput, Form}
use Rattle.dns_name.specs.declared.error.FormReason.TheVariants.{ShortServerCookie, LongServerCookie}
use Rattle.dns_name.specs.OptData.{Taken}
use Rattle.dns_cookie.specs.ClientCookie.{client_cookie_of}
use Rattle.dns_cookie.specs.Cookies.{Cookie}
use Rattle.dns_cookie.specs.declared.client_cookie.ClientCookie.{ClientCookie}

-- ---- reading: a value and how many octets it takes, or a refusal

-- a client cookie is eight octets
abbrev pub client_data : List ℕ → Taken ClientCookie
client_data d = if nat_lt (length d) 8 then Err ShortInput else Ok (client_cookie_of (take 8 d), 8)

-- a server cookie is all that is left, 8 to 32 octets
abbrev pub server_data : List ℕ → Taken (List ℕ)
server_data d =
    if nat_lt (length d) 8 then Err (Form ShortServerCookie)
    else if nat_lt 32 (length d) then Err (Form LongServerCookie)
    else Ok (d, length d)

abbrev pub with_some : Taken (List ℕ) → Taken (Option (List ℕ))
with_some (Ok p) = Ok (Some p.0, p.1)
with_some (Err e) = Err e

-- there is none if nothing is left
abbrev pub server_part : List ℕ → Taken (Option (List ℕ))
server_part [] = Ok (None, 0)
server_part (x ∷ d) = with_some (server_data (x ∷ d))

abbrev pub with_client : List ℕ → Taken (Option (List ℕ)) → Taken Cookie
with_client client (Ok p) = Ok (record { client = client; server = p.0 }, 8 + p.1)
with_client client (Err e) = Err e

-- a cookie is a client cookie and then a server cookie or nothing
abbrev pub cookie_data : List ℕ → Taken Cookie
cookie_data d = if nat_lt (length d) 8 then Err ShortInput else with_client (take 8 d) (server_part (drop 8 d))

-- ---- writing

abbrev pub server_octets : Option (List ℕ) → List ℕ
server_octets None = []
server_octets (Some s) = s

-- the client part, and then the server part if there is one
abbrev pub cookie_octets : Cookie → List ℕ
cookie_octets c = c.client ++ server_octets c.server

-- ---- the cookies that there are

-- a server part, if there is one, has 8 to 32 octets
abbrev pub IsServerPart : Option (List ℕ) → Type 0
IsServerPart o = IfSome o (λ s. (8 ≤ length s) × (length s ≤ 32))

abbrev pub IsCookie : Cookie → Type 0
IsCookie c = (length c.client ≡ 8) × IsServerPart c.server
