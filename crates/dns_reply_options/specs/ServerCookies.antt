-- The server cookie in each reply to a request with a client cookie (RFC 7873, sections 5.2.3 to 5.2.5; RFC 9018, section 4.3).
use Rattle.std.specs.Prelude.{ℕ, ◌%◌, ◌^◌, Bool, false, ◌&&◌, List, nat_eq, nat_le, Option, Some, None, if◌then◌else◌}
use Rattle.dns_name.specs.declared.address.IpAddr.{IpAddr}
use Rattle.dns_base.specs.Msg.{Msg}
use Rattle.dns_cookie.specs.CookieData.{cookie_data, cookie_octets}
use Rattle.dns_cookie.specs.Cookies.{Cookie, after_last_hour, response, standard_of, timestamp_of, version_of}
use Rattle.dns_opt.specs.OptData.{for_code}
use Rattle.dns_service.specs.Answer.{Answer}
use Rattle.dns_service.specs.Cut.{sized}
use Rattle.dns_service.specs.Req.{Req}
use Rattle.dns_layers.specs.Cookies.{verdict}
use Rattle.dns_layers.specs.declared.cookie_verdict.CookieVerdict.{CookieVerdict}
use Rattle.dns_layers.specs.declared.cookie_verdict.CookieVerdict.TheVariants.{Absent, Malformed, Bare, Good, Wrong}
use Rattle.dns_rewriting.specs.Rewritings.{rewritten_replies}
use Rattle.dns_reply_options.specs.Carried.{and_option}
use Rattle.dns_reply_options.specs.declared.cookie_post.CookiePost.{CookiePost}

-- a server cookie of version 1 that is no more than half an hour old
abbrev pub is_recent_part : ℕ → Option (List ℕ) → Bool
is_recent_part now None = false
is_recent_part now (Some s) = nat_eq (version_of s) 1 && nat_le 1800 (after_last_hour (timestamp_of s) now)

abbrev pub is_recent : ℕ → Cookie → Bool
is_recent now c = is_recent_part now (standard_of c.server)

-- a good cookie while it is recent, and else a new one of its client part
abbrev pub lasting : List ℕ → ℕ → IpAddr → Cookie → Cookie
lasting secret now address c = if is_recent now c then c else response secret c now address

-- the cookie of the replies to a request whose cookie is taken so: its own while that is good and recent, and else a new one
abbrev pub reply_cookie : List ℕ → ℕ → IpAddr → CookieVerdict → Option Cookie
reply_cookie secret now address Absent = None
reply_cookie secret now address Malformed = None
reply_cookie secret now address (Bare c) = Some (response secret c now address)
reply_cookie secret now address (Wrong c) = Some (response secret c now address)
reply_cookie secret now address (Good c) = Some (lasting secret now address c)

-- the cookie of the replies to a request, if there is a secret
abbrev pub cookie_for : {Meta : Type 0} → Option (List ℕ) → Req Meta → Option Cookie
cookie_for None r = None
cookie_for (Some secret) r = reply_cookie secret (r.received_secs % 2 ^ 32) r.client_addr.ip (verdict secret r)

-- a reply with a cookie
abbrev pub with_cookie : Cookie → Msg → Msg
with_cookie c m = and_option (for_code 10 cookie_data) 10 (cookie_octets c) m

-- cut if it has no room
abbrev pub cookie_by : CookiePost → Msg → Msg
cookie_by p m = sized p.limit (with_cookie p.cookie m)

abbrev pub cookie_rule : Cookie → Option ℕ → CookiePost
cookie_rule c n = record { cookie = c; limit = n }

-- the answers of the service inside, each reply with that cookie
abbrev pub server_cookies : {Meta : Type 0} → Option (List ℕ) → (Req Meta → ℕ → Answer) → (Req Meta → Option ℕ) → Req Meta → ℕ → Answer
server_cookies secret answer hint r = rewritten_replies (λ c n. cookie_by (cookie_rule c n)) (cookie_for secret r) answer hint r
