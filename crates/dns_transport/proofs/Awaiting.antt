-- Looks and readings while a control waits.
use Rattle.std.proofs.Common.{◌≡◌, ◌≤◌, ◌↔◌, ℕ, ◌-◌, Bool, true, false, IsTrue, Some, None, List, [], ◌∷◌, ◌++◌, refl, sym, ap, ◌∙◌, append_assoc, append-nil}
use Rattle.std.proofs.lemmas.List.Elements.{All-nil, All-push}
use Rattle.dns_events.specs.declared.look.Look.{Look}
use Rattle.dns_admission.specs.declared.call.Call.TheVariants.{Look as ToLook}
use Rattle.dns_admission.specs.declared.call.Reply.TheVariants.{Look as Shown}
use Rattle.dns_book.specs.Gains.{with_calls}
use Rattle.dns_book.specs.History.{SeatName, entry, with_entry}
use Rattle.dns_book.specs.Seats.{Called, state_met}
use Rattle.dns_book.specs.declared.history.Entry.{Entry}
use Rattle.dns_book.specs.declared.history.Known.{Known}
use Rattle.dns_book.specs.declared.history.Share.{Share}
use Rattle.dns_io.specs.Causes.{Observed}
use Rattle.dns_host.specs.Clocks.{ClockReading}
use Rattle.dns_host.specs.Woven.{look_entries}
use Rattle.dns_host.specs.DatagramsServed.{LooksOnly}
use Rattle.dns_transport.specs.Controls.{IsDown, LookedInVain, Awaited, Since, ReadingsSpan, ReadAgain, TimePassed}

entries_more : (name : SeatName) (ls : List Look) (l : Look) → look_entries name (ls ++ l ∷ []) ≡ look_entries name ls ++ entry name ToLook (Shown l) ∷ []
entries_more name [] l = refl
entries_more name (m ∷ ls) l = ap (λ es. entry name ToLook (Shown m) ∷ es) (entries_more name ls l)

calls_more : (es : List Entry) (e : Entry) (m : List Share) → with_calls (es ++ e ∷ []) m ≡ with_entry e.by e (with_calls es m)
calls_more [] e m = refl
calls_more (x ∷ es) e m = calls_more es e (with_entry x.by x m)

pub looks_none : (k : Known) → LookedInVain k k
looks_none k = record { looks = []; made = record { calls = record { same_book = refl; seen = ([], sym (append-nil k.seen)); mine = refl }; name = refl }; none = All-nil (λ (look : Look). ¬ IsDown look) }

looks_more : (k k1 k2 : Known) (ls : List Look) (l : Look) → LooksOnly k ls k1 → Called k1 ToLook (Shown l) k2 → LooksOnly k (ls ++ l ∷ []) k2
looks_more k k1 k2 ls l a c = record {
  calls = record {
    same_book = c.same_book ∙ a.calls.same_book;
    seen = (
      a.calls.seen.0 ++ (c.seen.0 ++ entry k1.name ToLook (Shown l) ∷ []),
      c.seen.1 ∙ (ap (λ (s : List Entry). (s ++ c.seen.0) ++ entry k1.name ToLook (Shown l) ∷ []) a.calls.seen.1
          ∙ (append_assoc (k.seen ++ a.calls.seen.0) c.seen.0 (entry k1.name ToLook (Shown l) ∷ [])
          ∙ append_assoc k.seen a.calls.seen.0 (c.seen.0 ++ entry k1.name ToLook (Shown l) ∷ []))),
    );
    mine = rw (entries_more k.name ls l, calls_more (look_entries k.name ls) (entry k.name ToLook (Shown l)) k.mine, ← a.calls.mine, ← a.name) c.mine;
  };
  name = c.same_name ∙ a.name;
}

-- one look more in vain
pub vain_more : (k k1 k2 : Known) (l : Look) → LookedInVain k k1 → Called k1 ToLook (Shown l) k2 → ¬ IsDown l → LookedInVain k k2
vain_more k k1 k2 l a c h = record { looks = a.looks ++ l ∷ []; made = looks_more k k1 k2 a.looks l a.made c; none = All-push (λ (look : Look). ¬ IsDown look) a.looks l a.none h }

pub awaited : (down : Bool) (k k1 k2 : Known) → LookedInVain k k1 → Called k1 ToLook (Shown (state_met k2)) k2 → (IsTrue down ↔ IsDown (state_met k2)) → Awaited down k k2
awaited down k k1 k2 a c x = record {
  looks = a.looks;
  last = state_met k2;
  made = looks_more k k1 k2 a.looks (state_met k2) a.made c;
  none = a.none;
  exactly = x;
}

pub tells_then : {n m b F G H : Type 0} → Observed n m F → Observed m b G → (F → G → H) → Observed n b H
tells_then x y f = record { observed = λ t. let p = x.observed t in let q = y.observed p.0 in (q.0, f p.1 q.1) }

pub tells_nothing : {n b F : Type 0} → Observed n b F → Observed n b (Unit {0})
tells_nothing x = record { observed = λ t. ((x.observed t).0, tt) }

pub since_first : (c c1 : List ClockReading) (r : ClockReading) → c1 ≡ c ++ r ∷ [] → Since r.0 c c1
since_first c c1 r e = record { secs = r.1; between = []; clock = e }

pub since_more : (start : ℕ) (c c1 c2 : List ClockReading) (r : ClockReading) → Since start c c1 → c2 ≡ c1 ++ r ∷ [] → Since start c c2
since_more start c c1 c2 r s e = record {
  secs = s.secs;
  between = s.between ++ r ∷ [];
  clock = e ∙ (ap (λ (l : List ClockReading). l ++ r ∷ []) s.clock ∙ append_assoc c ((start, s.secs) ∷ s.between) (r ∷ []));
}

pub apart_now : (millis start : ℕ) (c c1 c2 : List ClockReading) (r : ClockReading) → Since start c c1 → c2 ≡ c1 ++ r ∷ [] → millis ≤ r.0 - start → ReadingsSpan millis c c2
apart_now millis start c c1 c2 r s e h = record {
  first = (start, s.secs);
  between = s.between;
  last = r;
  clock = e ∙ (ap (λ (l : List ClockReading). l ++ r ∷ []) s.clock ∙ append_assoc c ((start, s.secs) ∷ s.between) (r ∷ []));
  apart = h;
}

time_passed : (down : Bool) (start millis : ℕ) (c c1 c2 : List ClockReading) → ReadAgain (Some down) start millis c1 c2 → Since start c c1 → TimePassed down millis c c2
time_passed true start millis c c1 c2 r s = tt
time_passed false start millis c c1 c2 r s = apart_now millis start c c1 c2 r.reading s r.clock r.is_late

pub passed_told : (now mid before : Type 0) (down : Bool) (start millis : ℕ) (c c1 c2 : List ClockReading) →
    Observed now mid (ReadAgain (Some down) start millis c1 c2) → Observed mid before (Since start c c1) → Observed now before (TimePassed down millis c c2)
passed_told now mid before down start millis c c1 c2 x y = tells_then x y (time_passed down start millis c c1 c2)

pub read_on : (now mid before : Type 0) (start millis : ℕ) (c c1 c2 : List ClockReading) →
    Observed now mid (ReadAgain None start millis c1 c2) → Observed mid before (Since start c c1) → Observed now before (Since start c c2)
read_on now mid before start millis c c1 c2 x y = tells_then x y (λ r s. since_more start c c1 c2 r.reading s r.clock)
