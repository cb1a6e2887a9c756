-- The cookie layer (RFC 7873, section 5.2; RFC 9018, section 4.3, for the timestamp): how a server takes a request's cookie, and
-- which requests it answers by itself.
use Rattle.std.specs.Prelude.{ℕ, ◌/◌, ◌%◌, ◌^◌, List, take, Bool, true, false, ◌&&◌, ◌||◌, nat_eq, nat_le, if◌then◌else◌, Option, Some, None, option_map}
use Rattle.std.specs.List.{list_any}
use Rattle.std.specs.Str.{bytes_eq}
use Rattle.dns_name.specs.declared.address.IpAddr.{IpAddr}
use Rattle.dns_name.specs.declared.address.IpAddr.TheVariants.{V4, V6}
use Rattle.dns_base.specs.Msg.{Msg}
use Rattle.dns_base.specs.Built.{Built, empty, zero_header}
use Rattle.dns_base.specs.Options.{option_octets}
use Rattle.dns_base.specs.Replies.{answer_to, have_room, within_limit}
use Rattle.dns_cookie.specs.CookieData.{cookie_octets}
use Rattle.dns_cookie.specs.Cookies.{Cookie, after_last_hour, hash_octets, hash_of, response, standard_of, timestamp_of}
use Rattle.dns_opt.specs.Drafts.{OptDraft, opened_opt, with_opt, with_opt_record}
use Rattle.dns_opt.specs.OptRecords.{zero_head}
use Rattle.dns_service.specs.declared.asked.AskedCookie.{AskedCookie}
use Rattle.dns_service.specs.declared.asked.AskedCookie.TheVariants.{NoCookie, Unreadable, Sent}
use Rattle.dns_service.specs.declared.message.TransportSpecificContext.{TransportSpecificContext}
use Rattle.dns_service.specs.declared.message.TransportSpecificContext.TheVariants.{Udp, NonUdp}
use Rattle.dns_service.specs.Answer.{Answer}
use Rattle.dns_service.specs.Asked.{asked_of, asked_cookie}
use Rattle.dns_service.specs.Codes.{badcookie, formerr, noerror, refused_code, servfail}
use Rattle.dns_service.specs.ErrorReply.{error_reply}
use Rattle.dns_service.specs.Req.{Req}
use Rattle.dns_layers.specs.declared.cookie_verdict.CookieVerdict.{CookieVerdict}
use Rattle.dns_layers.specs.declared.cookie_verdict.CookieVerdict.TheVariants.{Absent, Malformed, Bare, Good, Wrong}
use Rattle.dns_layers.specs.declared.cookie_verdict.CookieAnswer.{CookieAnswer}
use Rattle.dns_layers.specs.declared.cookie_verdict.CookieAnswer.TheVariants.{HeaderAlone, Fresh}
use Rattle.dns_layers.specs.Rewritten.{hint_by, own_reply}

-- ---- how a cookie is taken

-- a standard server cookie that is timely and has the right hash
abbrev pub is_good_part : List ℕ → List ℕ → IpAddr → ℕ → Option (List ℕ) → Bool
is_good_part secret client address now None = false
is_good_part secret client address now (Some s) =
    nat_le (after_last_hour (timestamp_of s) now) 3900 && bytes_eq (hash_of s) (hash_octets secret client (take 8 s) address)

-- a cookie that a server takes as its own
abbrev pub is_good : List ℕ → IpAddr → ℕ → Cookie → Bool
is_good secret address now c = is_good_part secret c.client address now (standard_of c.server)

-- a cookie without a server part, or with one that is good or not
abbrev pub sent_verdict : Cookie → Option (List ℕ) → Bool → CookieVerdict
sent_verdict c None good = Bare c
sent_verdict c (Some s) good = if good then Good c else Wrong c

abbrev pub verdict_by : List ℕ → IpAddr → ℕ → AskedCookie → CookieVerdict
verdict_by secret address now NoCookie = Absent
verdict_by secret address now Unreadable = Malformed
verdict_by secret address now (Sent c) = sent_verdict c c.server (is_good secret address now c)

-- how the first cookie of a request is taken, at the request's seconds modulo 2^32
abbrev pub verdict : {Meta : Type 0} → List ℕ → Req Meta → CookieVerdict
verdict secret r = verdict_by secret r.client_addr.ip (r.received_secs % 2 ^ 32) (asked_cookie (asked_of r.octets).opt)

-- ---- what a server answers by itself

-- REFUSED, by the header alone and truncated, without a cookie from an address that is denied; FORMERR if the cookie can't be
-- read; a new cookie to a request that has no question, with BADCOOKIE if its own was wrong; and a new cookie with BADCOOKIE to
-- a request that has questions, if its own isn't good and its address is denied
abbrev pub own_answer : CookieVerdict → Bool → Bool → Option CookieAnswer
own_answer Absent unasked denied = if denied then Some (HeaderAlone refused_code true) else None
own_answer Malformed unasked denied = Some (HeaderAlone formerr false)
own_answer (Good c) unasked denied = if unasked then Some (Fresh noerror c) else None
own_answer (Bare c) unasked denied = if unasked then Some (Fresh noerror c) else (if denied then Some (Fresh badcookie c) else None)
own_answer (Wrong c) unasked denied = if unasked || denied then Some (Fresh badcookie c) else None

-- addresses that are the same
abbrev pub same_address : IpAddr → IpAddr → Bool
same_address (V4 a) (V4 b) = bytes_eq a b
same_address (V6 a) (V6 b) = bytes_eq a b
same_address (V4 a) (V6 b) = false
same_address (V6 a) (V4 b) = false

-- a datagram from an address that is denied
abbrev pub denied_over : TransportSpecificContext → List IpAddr → IpAddr → Bool
denied_over (Udp hint) denied address = list_any (same_address address) denied
denied_over (NonUdp timeout) denied address = false

abbrev pub cookie_answer : {Meta : Type 0} → List ℕ → List IpAddr → Req Meta → Option CookieAnswer
cookie_answer secret denied r = own_answer (verdict secret r) (nat_eq (asked_of r.octets).qdcount 0)
    (denied_over r.transport denied r.client_addr.ip)

-- ---- the messages

-- a header alone, all of whose other bits are zero
abbrev pub zero_reply : ℕ → Bool → Msg
zero_reply code tc = record empty { header = record zero_header { rcode = code; tc = tc } }

-- the message that a reply begins with
abbrev pub begun_reply : Built
begun_reply = record { message = empty; limit = 65535 }

-- the draft of an OPT record of size 0 and version 0 with a cookie, and the code
abbrev pub cookie_draft : Built → ℕ → Cookie → OptDraft
cookie_draft b code c = record (opened_opt b)
    { head = record zero_head { ext = code / 16 }; low = code % 16; options = option_octets 10 (cookie_octets c) }

-- a message with that record, or as it is if the record has no room
abbrev pub with_cookie : Built → ℕ → Cookie → Built
with_cookie b code c = if within_limit (with_opt_record (cookie_draft b code c) b) then with_opt (cookie_draft b code c) b else b

-- an answer with that record, or SERVFAIL if the questions have no room
abbrev pub fresh_reply : List ℕ → ℕ → Cookie → Msg
fresh_reply o code c = if have_room begun_reply o (code % 16)
    then (with_cookie (answer_to begun_reply o (code % 16)) code c).message else error_reply o servfail

-- the message of such an answer: a cookie is made of the client part that was sent, at this time
abbrev pub own_message : List ℕ → List ℕ → ℕ → IpAddr → CookieAnswer → Msg
own_message secret o now address (HeaderAlone code tc) = zero_reply code tc
own_message secret o now address (Fresh code c) = fresh_reply o code (response secret c now address)

-- the layer's own reply, if the layer is on and has one
abbrev pub cookie_own : {Meta : Type 0} → Option (List ℕ) → List IpAddr → Req Meta → Option Msg
cookie_own None denied r = None
cookie_own (Some secret) denied r = option_map (own_message secret r.octets (r.received_secs % 2 ^ 32) r.client_addr.ip)
    (cookie_answer secret denied r)

-- ---- the layer

-- the secret of a layer that is on
abbrev pub secret_where : Bool → List ℕ → Option (List ℕ)
secret_where on secret = if on then Some secret else None

abbrev pub cookies_by : {Meta : Type 0} → (Req Meta → ℕ → Answer) → Req Meta → ℕ → Option Msg → Answer
cookies_by answer r k (Some m) = own_reply m k
cookies_by answer r k None = answer r k

-- what the layer answers, on if it has a secret, by what the service inside answers
abbrev pub cookies : {Meta : Type 0} → Option (List ℕ) → List IpAddr → (Req Meta → ℕ → Answer) → Req Meta → ℕ → Answer
cookies secret denied answer r k = cookies_by answer r k (cookie_own secret denied r)

-- the hint that a request has after the call
abbrev pub cookies_hint : {Meta : Type 0} → Option (List ℕ) → List IpAddr → (Req Meta → Option ℕ) → Req Meta → Option ℕ
cookies_hint secret denied hint r = hint_by hint r (cookie_own secret denied r)
