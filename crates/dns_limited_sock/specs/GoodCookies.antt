-- Requests that came by a good server cookie, and whose replies aren't sent yet (RFC 7873, section 5.2.4).
use Rattle.std.specs.Prelude.{ℕ, ◌≡◌, ◌⊎◌, ◌%◌, ◌^◌, ◌&&◌, ◌++◌, Bool, true, false, List, [], ◌∷◌, length, position, drop, remove, Option, Some, None, IsSome, IsSomeAnd, nat_eq, nat_le, nat_lt, if◌then◌else◌}
use Rattle.dns_cookie.specs.CookieData.{cookie_data}
use Rattle.dns_cookie.specs.Cookies.{IsGood}
use Rattle.dns_name.specs.declared.address.IpAddr.{IpAddr}
use Rattle.dns_name.specs.declared.address.SocketAddr.{SocketAddr}
use Rattle.dns_message.specs.Sections.{field}
use Rattle.dns_opt.specs.Items.{first_ok, items_of}
use Rattle.dns_opt.specs.OptData.{for_code}
use Rattle.dns_opt.specs.OptRecords.{OptState, opt_of}
use Rattle.dns_socket_addr.specs.SocketAddresses.{same_socket_addr}
use Rattle.dns_limited_sock.specs.declared.good_cookies.Exchange.{Exchange}

-- the first cookie of a request is one that the server takes as its own at a second
abbrev pub HasGood : Option OptState → List ℕ → IpAddr → ℕ → Type 0
HasGood None secret address second = ⊥
HasGood (Some s) secret address second =
    IsSomeAnd (first_ok (items_of (for_code 10 cookie_data) s.options)) (λ c. IsGood secret address (second % 2 ^ 32) c)

abbrev pub HasGoodCookie : List ℕ → List ℕ → IpAddr → ℕ → Type 0
HasGoodCookie o secret address second = HasGood (opt_of o) secret address second

-- a reply is to a request if it goes to its sender and has its identifier
abbrev pub is_same : Exchange → Exchange → Bool
is_same a b = nat_eq a.id b.id && same_socket_addr a.peer b.peer

-- what has an identifier is a request of its sender, or a reply to its receiver
abbrev pub exchange_of : List ℕ → SocketAddr → Option Exchange
exchange_of o peer = if nat_lt (length o) 12 then None else Some (record { peer = peer; id = field 0 o })

-- past 64 requests the first one is forgotten
abbrev pub kept_of : List Exchange → List Exchange
kept_of a = if nat_le 64 (length a) then drop 1 a else a

-- a request is behind the others; without memory it isn't
abbrev pub Puts : Exchange → List Exchange → List Exchange → Type 0
Puts e a b = (b ≡ kept_of a ++ e ∷ []) ⊎ (b ≡ kept_of a)

-- a reply to a request is awaited
abbrev pub IsAwaited : Exchange → List Exchange → Type 0
IsAwaited e a = IsSome (position (is_same e) a)

-- the first request that a reply is to is taken out, if there is one
abbrev pub TakesAt : Option ℕ → List Exchange → List Exchange → Bool → Type 0
TakesAt None a b found = (b ≡ a) × (found ≡ false)
TakesAt (Some n) a b found = (b ≡ remove a n) × (found ≡ true)

abbrev pub Takes : Exchange → List Exchange → List Exchange → Bool → Type 0
Takes e a b found = TakesAt (position (is_same e) a) a b found
