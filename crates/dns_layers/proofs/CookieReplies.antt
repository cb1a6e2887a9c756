-- A reply with an OPT record that holds a cookie.
use Rattle.std.proofs.Common.{◌≡◌, ℕ, ◌+◌, ◌≤◌, ◌<◌, Bool, true, false, List, length, nat_le, Option, Some, None, refl, sym, subst, arith, length-append}
use Rattle.std.proofs.lemmas.Bool.Decides.{nat_tests}
use Rattle.std.specs.Prelude.{⊤, Result, Ok, Err}
use Rattle.dns_name.specs.declared.opt_error.BuildDataError.{BuildDataError}
use Rattle.dns_name.specs.declared.opt_error.BuildDataError.TheVariants.{LongOptData, WrongLength, ShortBuf, OutOfMemory as NoMemory}
use Rattle.dns_base.specs.Built.{Built, PassesLimit}
use Rattle.dns_cookie.specs.CookieData.{IsCookie, IsServerPart, cookie_octets, server_octets}
use Rattle.dns_cookie.specs.Cookies.{Cookie}
use Rattle.dns_opt.specs.Drafts.{Appended, BuiltFitting, BuiltOpt, Ends, OptDraft, PushedIn, opened_opt, room_of, with_opt_record}
use Rattle.dns_opt.proofs.Sizes.{opt_grows}
use Rattle.dns_service.specs.ErrorReply.{code_draft}
use Rattle.dns_layers.specs.Cookies.{cookie_draft}

server_short : (o : Option (List ℕ)) → IsServerPart o → length (server_octets o) ≤ 32
server_short None h = omega arith
server_short (Some s) h = h.1

-- a cookie has at most 40 octets
cookie_short : (c : Cookie) → IsCookie c → length (cookie_octets c) ≤ 40
cookie_short c h =
    let n = length-append c.client (server_octets c.server) in
    let e : length c.client ≡ 8 = h.0 in
    let s = server_short c.server h.1 in
    omega arith

module _ (calls : OptDraft → Result ⊤ BuildDataError → OptDraft → Type 0) (old new : Built) (result : Result ⊤ BuildDataError) (code : ℕ) (c : Cookie) where
  -- a closure that sets the code and pushes the cookie
  abbrev pub PutsCookie : Type 0
  PutsCookie = (answer : Result ⊤ BuildDataError) (left : OptDraft) → calls (opened_opt old) answer left → PushedIn 10 (cookie_octets c) (code_draft old code) left answer

  passes : room_of old < 4 + length (cookie_octets c) + 11 → PassesLimit (with_opt_record (cookie_draft old code c) old)
  passes h =
      let d = cookie_draft old code c in
      let g = opt_grows d.head d.options old in
      omega (arith, h, g)

  ended : (answer : Result ⊤ BuildDataError) (left : OptDraft) → IsCookie c → PushedIn 10 (cookie_octets c) (code_draft old code) left answer → Ends answer left old new result → Appended (cookie_draft old code c) old new result
  ended (Ok u) left k p h = subst (λ (d : OptDraft). Appended d old new result) p.2 h
  ended (Err LongOptData) left k p h = let s = cookie_short c k in absurd (omega (arith, p.0, s))
  ended (Err (WrongLength s t)) left k p h = absurd p
  ended (Err ShortBuf) left k p h = subst (λ (r : Result ⊤ BuildDataError). Appended (cookie_draft old code c) old new r) (sym h.0) (h.1, passes p.1)
  ended (Err NoMemory) left k p h = subst (λ (r : Result ⊤ BuildDataError). Appended (cookie_draft old code c) old new r) (sym h.0) h.1

  by_room : (b : Bool) → nat_le 11 (room_of old) ≡ b → IsCookie c → PutsCookie → BuiltFitting b calls old new result → Appended (cookie_draft old code c) old new result
  by_room false e k p h =
      let small : room_of old < 11 = grind (arith, nat_tests) in
      subst (λ (r : Result ⊤ BuildDataError). Appended (cookie_draft old code c) old new r) (sym h.0) (h.1, passes (omega (arith, small)))
  by_room true e k p h = ended h.answer h.left k (p h.answer h.left h.met) h.ends

  pub cookie_put : IsCookie c → PutsCookie → BuiltOpt calls old new result → Appended (cookie_draft old code c) old new result
  cookie_put k p h = by_room (nat_le 11 (room_of old)) refl k p h
