-- What holds of a stretch of the loop of datagrams whatever socket, clock and recorder tell.
use Rattle.std.proofs.Common.{◌≡◌, ◌≤◌, ℕ, [], ◌∷◌, ◌++◌, Bool, true, false, refl, ap, sym, ◌∙◌, arith, inl, inr}
use Rattle.std.specs.Prelude.{◌||◌, Result, Ok, Err, OnOk, OnErr}
use Rattle.std.specs.List.{list_any}
use Rattle.std.proofs.lemmas.List.Folds.{list_any-append}
use Rattle.dns_events.specs.declared.look.Look.{Look}
use Rattle.dns_admission.specs.declared.call.Call.TheVariants.{Look as ToLook}
use Rattle.dns_admission.specs.declared.call.Reply.TheVariants.{Look as Shown}
use Rattle.dns_book.specs.Seats.{Called}
use Rattle.dns_book.specs.declared.book.BookSeat.{BookSeat}
use Rattle.dns_book.specs.declared.history.Known.{Known}
use Rattle.dns_dgram_driver.specs.DatagramsServed.{LooksBy, RoseIf}
use Rattle.dns_dgram_driver.specs.Steps.{SendsRose, hears}
use Rattle.dns_dgram_driver.specs.Rounds.{PassesOn}
use Rattle.dns_dgram_driver.specs.declared.serving.DgramEnd.{DgramEnd}
use Rattle.dns_dgram_driver.specs.declared.serving.DgramEnd.TheVariants.{Shutdown}
use Rattle.dns_dgram_driver.specs.declared.running.Running.{Running}
use Rattle.dns_dgram_driver.proofs.EventOrder.{hears_closed}
use Rattle.dns_dgram_driver.proofs.Seats.{looks_none, looks_one, looks_then}

or_false : (a : Bool) → (a || false) ≡ a
or_false true = refl
or_false false = refl

or_left : (a b : Bool) → a ≡ true → (a || b) ≡ true
or_left true b h = refl
or_left false b h = cc

-- ---- the count of failed sends

sends_then : (a b c : Bool) (f f1 f2 : ℕ) → f ≤ f1 → f1 ≤ f2 → SendsRose a b f f1 → SendsRose b c f1 f2 → SendsRose a c f f2
sends_then a b c f f1 f2 l m (inl p) (inl q) = inl (q.0 ∙ p.0, q.1 ∙ p.1)
sends_then a b c f f1 f2 l m (inl p) (inr q) = inr (q.0, rw (sym p.1) q.1)
sends_then a b c f f1 f2 l m (inr p) (inl q) = inr (q.0 ∙ p.0, rw q.1 p.1)
sends_then a b c f f1 f2 l m (inr p) (inr q) = inr (q.0, let x = q.1 in omega arith)

pub rose_if : (a b : Bool) (f f' : ℕ) → a ≡ false → SendsRose a b f f' → RoseIf b f f'
rose_if a true f f' h (inl p) = absurd (cc (h, p.0))
rose_if a true f f' h (inr p) = p.1
rose_if a false f f' h (inl p) = p.1
rose_if a false f f' h (inr p) = absurd (cc p.0)

-- ---- a shutdown

shown_then : (x y z w : Bool) → (y ≡ true → (x || z) ≡ true) → (y || w) ≡ true → (x || (z || w)) ≡ true
shown_then true y z w h g = refl
shown_then false true z w h g = or_left z w (h refl)
shown_then false false true w h g = refl
shown_then false false false w h g = g

module _ {W R F : Type 0} where
  -- nothing was heard
  pub passes_kept : (s s' : Running W R F) (f f' : ℕ) → s'.heard ≡ s.heard → s'.seat ≡ s.seat → f ≤ f' → SendsRose s.send_failed s'.send_failed f f' → PassesOn s s' f f'
  passes_kept s s' f f' h q l r = record {
    looks = [];
    made = rw q (looks_none s.seat.known);
    book = ap (λ (b : BookSeat). b.book) q;
    over = λ c. ap (λ (m : Look). m.closed) h ∙ c;
    shown = λ c. or_false s.heard.closed ∙ (ap (λ (m : Look). m.closed) (sym h) ∙ c);
    later = l;
    rose = r;
  }

  pub passes_same : (s : Running W R F) (f : ℕ) → PassesOn s s f f
  passes_same s f = passes_kept s s f f refl refl (omega arith) (inl (refl, refl))

  -- a look
  pub passes_look : (s s' : Running W R F) (f : ℕ) (look : Look) → Called s.seat.known ToLook (Shown look) s'.seat.known → s'.seat.book ≡ s.seat.book → s'.heard ≡ hears s.heard look → s'.send_failed ≡ s.send_failed → PassesOn s s' f f
  passes_look s s' f look c q h r =
      let closed : s'.heard.closed ≡ (s.heard.closed || look.closed) = ap (λ (m : Look). m.closed) h ∙ hears_closed s.heard look in record {
        looks = look ∷ [];
        made = looks_one s.seat.known s'.seat.known look c;
        book = q;
        over = λ d. closed ∙ or_left s.heard.closed look.closed d;
        shown = λ d. ap (λ b. s.heard.closed || b) (or_false look.closed) ∙ (sym closed ∙ d);
        later = omega arith;
        rose = inl (r, refl);
      }

  -- a look whose news weren't noted
  pub passes_unheard : (s s' : Running W R F) (f : ℕ) (look : Look) → Called s.seat.known ToLook (Shown look) s'.seat.known → s'.seat.book ≡ s.seat.book → s'.heard ≡ s.heard → s'.send_failed ≡ s.send_failed → PassesOn s s' f f
  passes_unheard s s' f look c q h r =
      let closed : s'.heard.closed ≡ s.heard.closed = ap (λ (m : Look). m.closed) h in record {
        looks = look ∷ [];
        made = looks_one s.seat.known s'.seat.known look c;
        book = q;
        over = λ d. closed ∙ d;
        shown = λ d. or_left s.heard.closed (look.closed || false) (sym closed ∙ d);
        later = omega arith;
        rose = inl (r, refl);
      }

  pub passes_news : {E : Type 0} (s s' : Running W R F) (f : ℕ) (look : Look) (r : Result (Unit {0}) E) → OnOk r (s'.heard ≡ hears s.heard look) → OnErr r (s'.heard ≡ s.heard) → Called s.seat.known ToLook (Shown look) s'.seat.known
      → s'.seat.book ≡ s.seat.book → s'.send_failed ≡ s.send_failed → PassesOn s s' f f
  passes_news s s' f look (Ok u) h g c q r = passes_look s s' f look c q h r
  passes_news s s' f look (Err e) h g c q r = passes_unheard s s' f look c q g r

  pub passes_then : (s s1 s2 : Running W R F) (f f1 f2 : ℕ) → PassesOn s s1 f f1 → PassesOn s1 s2 f1 f2 → PassesOn s s2 f f2
  passes_then s s1 s2 f f1 f2 a b = record {
    looks = a.looks ++ b.looks;
    made = looks_then s.seat.known s1.seat.known s2.seat.known a.looks b.looks a.made b.made;
    book = b.book ∙ a.book;
    over = λ c. b.over (a.over c);
    shown = λ c. ap (λ x. s.heard.closed || x) (list_any-append (λ l. l.closed) a.looks b.looks)
        ∙ shown_then s.heard.closed s1.heard.closed (list_any (λ l. l.closed) a.looks) (list_any (λ l. l.closed) b.looks) a.shown (b.shown c);
    later = let x = a.later in let y = b.later in omega arith;
    rose = sends_then s.send_failed s1.send_failed s2.send_failed f f1 f2 a.later b.later a.rose b.rose;
  }

  -- from the first look on
  pub passes_first : (end : DgramEnd) (first : Look) (k : Known) (s s' : Running W R F) (f f' : ℕ) → Called k ToLook (Shown first) s.seat.known → s.heard ≡ hears (record first { closed = false }) first
      → PassesOn s s' f f' → (end ≡ Shutdown → s'.heard.closed ≡ true) → LooksBy end k s'.seat.known
  passes_first end first k s s' f f' c h p over =
      let closed : s.heard.closed ≡ first.closed = ap (λ (m : Look). m.closed) h ∙ hears_closed (record first { closed = false }) first in record {
        looks = first ∷ p.looks;
        made = looks_then k s.seat.known s'.seat.known (first ∷ []) p.looks (looks_one k s.seat.known first c) p.made;
        shown = λ e. ap (λ b. b || list_any (λ l. l.closed) p.looks) (sym closed) ∙ p.shown (over e);
      }

-- the news of the first look weren't noted
pub looks_first : (end : DgramEnd) (k k' : Known) (first : Look) → Called k ToLook (Shown first) k' → (end ≡ Shutdown → first.closed ≡ true) → LooksBy end k k'
looks_first end k k' first c h = record { looks = first ∷ []; made = looks_one k k' first c; shown = λ e. or_left first.closed false (h e) }
