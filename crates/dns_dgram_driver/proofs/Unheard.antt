-- A look that shows nothing new.
use Rattle.std.proofs.Common.{◌≡◌, ℕ, [], Bool, true, false, refl, sym, ◌∙◌, subst, List, append-nil}
use Rattle.std.specs.Prelude.{not, ◌&&◌, ◌||◌, ◌==◌, if◌then◌else◌, Option, Some, None, Result, OnOk, OnErr}
use Rattle.std.proofs.lemmas.Bool.{eqb-true}
use Rattle.dns_events.specs.declared.look.Look.{Look}
use Rattle.dns_events.specs.declared.event.Event.{Event}
use Rattle.dns_admission.specs.declared.call.Call.TheVariants.{Look as ToLook}
use Rattle.dns_admission.specs.declared.call.Reply.TheVariants.{Look as Shown}
use Rattle.dns_book.specs.News.{is_heard, news_of}
use Rattle.dns_book.specs.Seats.{Called}
use Rattle.dns_recorder.specs.Clocks.{ClockReading}
use Rattle.dns_recorder.specs.Woven.{news_kinds}
use Rattle.dns_io.specs.SockTraffic.{SockTraffic}
use Rattle.dns_service.specs.Answer.{Answer}
use Rattle.dns_service.specs.declared.polled.PolledRequest.{PolledRequest}
use Rattle.dns_session.specs.Serving.{Serving}
use Rattle.dns_book.specs.declared.history.Known.{Known}
use Rattle.dns_dgram_driver.specs.DatagramsServed.{world}
use Rattle.dns_dgram_driver.specs.Rounds.{PassesOn, TakesLook}
use Rattle.dns_dgram_driver.specs.Steps.{NewsNoted, hears}
use Rattle.dns_dgram_driver.specs.declared.running.Running.{Running}
use Rattle.dns_dgram_driver.proofs.Clocks.{clocked_none}
use Rattle.dns_dgram_driver.proofs.Passes.{passes_look, passes_news}
use Rattle.dns_dgram_driver.proofs.KeptExchanges.{TypeOf}
use Rattle.dns_dgram_driver.proofs.Turns.{looks_by}

some_of : (b : Bool) (m l : Look) → (if b then None else Some m) ≡ Some l → m ≡ l
some_of true m l e = absurd (cc e)
some_of false m l e = cc e

none_of : (b : Bool) (m : Look) → (if b then None else Some m) ≡ None → b ≡ true
none_of true m e = refl
none_of false m e = absurd (cc e)

both : (a b : Bool) → (a && b) ≡ true → (a ≡ true) × (b ≡ true)
both true true e = (refl, refl)
both true false e = absurd (cc e)
both false b e = absurd (cc e)

closed_stays : (h m : Bool) → (h || not m) ≡ true → (h || m) ≡ h
closed_stays true m e = refl
closed_stays false false e = refl
closed_stays false true e = absurd (cc e)

no_end : (h m : Bool) → (h || not m) ≡ true → (m && not h) ≡ false
no_end true true e = refl
no_end true false e = refl
no_end false false e = refl
no_end false true e = absurd (cc e)

or_true : (a b : Bool) → b ≡ true → (a || b) ≡ true
or_true true b e = refl
or_true false b e = e

-- what is given is what the book showed
pub news_shown : (heard shown given : Look) → news_of heard.version heard.closed shown ≡ Some given → shown ≡ given
news_shown heard shown given e = some_of (is_heard heard.version heard.closed shown) shown given e

module _ (heard shown : Look) (none : news_of heard.version heard.closed shown ≡ None) where
  parts : ((shown.version == heard.version) ≡ true) × ((heard.closed || not shown.closed) ≡ true)
  parts = both (shown.version == heard.version) (heard.closed || not shown.closed)
      (none_of (is_heard heard.version heard.closed shown) shown none)

  same_version : shown.version ≡ heard.version
  same_version = eqb-true shown.version heard.version parts.0

  -- what was heard of stays
  pub nothing_heard : hears heard shown ≡ heard
  nothing_heard = rw (
    or_true heard.closed
        (shown.version == heard.version) parts.0,
    same_version,
    closed_stays heard.closed shown.closed parts.1,
  ) refl

  no_kinds : news_kinds heard shown ≡ []
  no_kinds = rw (parts.0, no_end heard.closed shown.closed parts.1) refl

  -- nothing is noted
  pub nothing_noted : (n : List Event) (c : List ClockReading) → NewsNoted heard shown n n c c
  nothing_noted n c = record { events = []; news = sym no_kinds; nobodys = tt; noted = sym (append-nil n); clock = clocked_none c 0 }

module _ {W R F : Type 0} where
  -- a look that showed nothing new
  pub passes_heard : (s s' : Running W R F) (f : ℕ) (shown : Look) (news : Option Look)
      → Called s.seat.known ToLook (Shown shown) s'.seat.known
      → news ≡ news_of s.heard.version s.heard.closed shown → news ≡ None → s'.heard ≡ s.heard → s'.seat.book ≡ s.seat.book
      → s'.send_failed ≡ s.send_failed → PassesOn s s' f f
  passes_heard s s' f shown news c is none h q r =
      passes_look s s' f shown c q (h ∙ sym (nothing_heard s.heard shown (sym is ∙ none))) r

  -- a look whose news were noted, or weren't
  pub passes_told : {E : Type 0} (s s' : Running W R F) (f : ℕ) (shown given : Look) (news : Option Look) (r : Result (Unit {0}) E)
      → Called s.seat.known ToLook (Shown shown) s'.seat.known
      → news ≡ news_of s.heard.version s.heard.closed shown → news ≡ Some given
      → OnOk r (s'.heard ≡ hears s.heard given) → OnErr r (s'.heard ≡ s.heard)
      → s'.seat.book ≡ s.seat.book → s'.send_failed ≡ s.send_failed → PassesOn s s' f f
  passes_told s s' f shown given news r c is some h g q x =
      passes_news s s' f given r h g (rw (news_shown s.heard shown given (sym is ∙ some)) at c) q x

module _ {W R F : Type 0} (answer : PolledRequest F R → ℕ → Answer) (answers : Serving) where
  -- a look that showed nothing new, and what was heard stays
  pub looks_heard : {n : List Event} {m : SockTraffic} {f : ℕ} {c : List ClockReading} {k k' : Known}
      (s : Running W R F) {shown : Look} (seat : TypeOf s.seat) → Called k ToLook (Shown shown) k'
      → news_of s.heard.version s.heard.closed shown ≡ None
      → TakesLook answer answers (world n m f c k) s (world n m f c k') (record s { seat = seat })
  looks_heard {n} {m} {f} {c} {k} {k'} s {shown} seat called none =
      subst (λ (h : Look). TakesLook answer answers (world n m f c k) s (world n m f c k') (record s { heard = h; seat = seat }))
      (nothing_heard s.heard shown none)
      (looks_by answer answers {n = n} {n' = n} {m = m} {f = f} {c = c} {c' = c} {k = k} {k' = k'} s {look = shown} seat called (nothing_noted s.heard shown none n c))
