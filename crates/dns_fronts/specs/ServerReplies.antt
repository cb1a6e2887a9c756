-- What a server says of itself in its replies: a server cookie, its own size over UDP and the request's DO; and how many octets a reply
-- over UDP has at most.
use Rattle.std.specs.Prelude.{◌≤◌, ℕ, List, [], ◌∷◌, length, Option, Some, None, option_map, unwrap_or}
use Rattle.dns_base.specs.Msg.{Msg}
use Rattle.dns_events.specs.declared.event.Output.{Output}
use Rattle.dns_events.specs.declared.event.Output.TheVariants.{Closed, Datagram, Frame, TurnedAway}
use Rattle.dns_events.specs.declared.settings.Settings.{Settings}
use Rattle.dns_service.specs.Answer.{Answer, mapped}
use Rattle.dns_service.specs.Cut.{sized}
use Rattle.dns_service.specs.Req.{Req}
use Rattle.dns_service.specs.Transport.{limit, limit_over}
use Rattle.dns_layers.specs.Edns.{passed_by}
use Rattle.dns_layers.specs.Rewritten.{rewritten}
use Rattle.dns_udp_size.specs.UdpSizes.{size_of}
use Rattle.dns_own_opt.specs.OwnOpts.{own_opt, own_rule}
use Rattle.dns_cookie.specs.Cookies.{Cookie}
use Rattle.dns_reply_options.specs.ServerCookies.{cookie_by, cookie_for, cookie_rule}
use Rattle.dns_reply_options.specs.declared.cookie_post.CookiePost.{CookiePost}
use Rattle.dns_own_opt.specs.declared.rule.OwnOpt.{OwnOpt}
use Rattle.dns_proxy.specs.declared.front.Taken.{Taken}
use Rattle.dns_proxy.specs.declared.front.Taken.TheVariants.{Own, Passed}
use Rattle.dns_fronts.specs.declared.server_post.ServerPost.{ServerPost}
use Rattle.dns_fronts.specs.declared.server_post.ServerRule.{ServerRule}

-- how many octets the server takes over UDP; 1,232 if the settings say nothing
abbrev pub udp_size : Settings → ℕ
udp_size s = unwrap_or s.dgram.max_response_size 1232

-- the request as the front inside takes it: over UDP, and without an OPT record, with a hint of 512 octets (RFC 1035, section 4.2.1)
abbrev pub sized_request : Req (Unit {0}) → Req (Unit {0})
sized_request r = passed_by (size_of r) r

-- a reply with a server cookie, if there is one (RFC 7873, section 5.2)
abbrev pub and_cookie : Option CookiePost → Msg → Msg
and_cookie None m = m
and_cookie (Some p) m = cookie_by p m

-- its OPT record states the server's own size (RFC 6891, section 6.2.3) and the request's DO (RFC 3225, section 3); it is cut if it has
-- no room
abbrev pub server_by : ServerPost → Msg → Msg
server_by p m = sized p.limit (own_opt p.opt (and_cookie p.cookie m))

-- after what the rule of the front inside makes of it
abbrev pub behind : {R : Type 0} → (R → Msg → Msg) → ServerRule R → Msg → Msg
behind rewriting p m = server_by p.post (rewriting p.inner m)

-- the rule for the replies to a request of at most that many octets, if that is limited, by the cookie that they carry
abbrev pub post_of : Option Cookie → OwnOpt → Option ℕ → ServerPost
post_of cookie opt n = record { cookie = option_map (λ c. cookie_rule c n) cookie; opt = opt; limit = n }

-- the rule for the replies to a request to which a front leaves this hint, by the server's size and by its secret, if any
abbrev pub server_rule : ℕ → Option (List ℕ) → Option ℕ → Req (Unit {0}) → ServerPost
server_rule size secret hint r = post_of (cookie_for secret r) (own_rule size r.octets) (limit_over r.transport (limit hint))

-- the answers of a front, each reply rewritten by that rule
abbrev pub served : ℕ → Option (List ℕ) → (Req (Unit {0}) → Option ℕ) → (Req (Unit {0}) → ℕ → Answer)
    → Req (Unit {0}) → ℕ → Answer
served size secret hint answer r k = mapped (rewritten (server_by (server_rule size secret (hint r) r))) (answer r k)

-- how a request is taken that the front inside takes like this
abbrev pub taken_behind : {R : Type 0} → ServerPost → Taken R → Taken (ServerRule R)
taken_behind post (Own item) = Own (rewritten (server_by post) item)
taken_behind post (Passed rule message) = Passed (record { inner = rule; post = post }) message

-- each datagram that is sent has at most that many octets
abbrev pub IsWithin : ℕ → Output → Type 0
IsWithin n (Datagram client o) = length o ≤ n
IsWithin n (Frame client o) = Unit {0}
IsWithin n (Closed client why) = Unit {0}
IsWithin n (TurnedAway client accepted) = Unit {0}

abbrev pub AreWithin : ℕ → List Output → Type 0
AreWithin n [] = Unit {0}
AreWithin n (o ∷ os) = IsWithin n o × AreWithin n os
