-- Looks of a seat.
use Rattle.std.proofs.Common.{◌≡◌, List, [], ◌∷◌, ◌++◌, refl, sym, ◌∙◌, ap, append_assoc, append-nil}
use Rattle.dns_events.specs.declared.look.Look.{Look}
use Rattle.dns_admission.specs.declared.call.Call.TheVariants.{Look as ToLook}
use Rattle.dns_admission.specs.declared.call.Reply.TheVariants.{Look as Shown}
use Rattle.dns_book.specs.Gains.{with_calls}
use Rattle.dns_book.specs.History.{SeatName, Begins, entry}
use Rattle.dns_book.specs.Seats.{Called}
use Rattle.dns_book.specs.declared.history.Entry.{Entry}
use Rattle.dns_book.specs.declared.history.Known.{Known}
use Rattle.dns_book.specs.declared.history.Share.{Share}
use Rattle.dns_recorder.specs.Woven.{look_entries}
use Rattle.dns_dgram_driver.specs.DatagramsServed.{LooksOnly, OnlyLooks}

entries_append : (name : SeatName) (ls ms : List Look) → look_entries name (ls ++ ms) ≡ look_entries name ls ++ look_entries name ms
entries_append name [] ms = refl
entries_append name (l ∷ ls) ms = ap (λ es. entry name ToLook (Shown l) ∷ es) (entries_append name ls ms)

calls_append : (es fs : List Entry) (m : List Share) → with_calls (es ++ fs) m ≡ with_calls fs (with_calls es m)
calls_append [] fs m = refl
calls_append (e ∷ es) fs m = calls_append es fs _

begins_then : (a b c : List Entry) → Begins a b → Begins b c → Begins a c
begins_then a b c x y = (x.0 ++ y.0, rw (y.1, x.1) (append_assoc a x.0 y.0))

pub looks_none : (k : Known) → LooksOnly k [] k
looks_none k = record { calls = record { same_book = refl; seen = ([], sym (append-nil k.seen)); mine = refl }; name = refl }

pub looks_then : (k k1 k2 : Known) (ls ms : List Look) → LooksOnly k ls k1 → LooksOnly k1 ms k2 → LooksOnly k (ls ++ ms) k2
looks_then k k1 k2 ls ms a b = record {
  calls = record {
    same_book = b.calls.same_book ∙ a.calls.same_book;
    seen = begins_then k.seen k1.seen k2.seen a.calls.seen b.calls.seen;
    mine = rw (entries_append k.name ls ms, calls_append (look_entries k.name ls) (look_entries k.name ms) k.mine, ← a.calls.mine, ← a.name) b.calls.mine;
  };
  name = b.name ∙ a.name;
}

pub looks_one : (k k' : Known) (l : Look) → Called k ToLook (Shown l) k' → LooksOnly k (l ∷ []) k'
looks_one k k' l c = record {
  calls = record {
    same_book = c.same_book;
    seen = (c.seen.0 ++ entry k.name ToLook (Shown l) ∷ [], c.seen.1 ∙ append_assoc k.seen c.seen.0 (entry k.name ToLook (Shown l) ∷ []));
    mine = c.mine;
  };
  name = c.same_name;
}

-- of no look and of one, that the calls are looks alone
pub only_none : (k : Known) → OnlyLooks k k
only_none k = record { looks = []; made = looks_none k }

pub only_one : (k k' : Known) (l : Look) → Called k ToLook (Shown l) k' → OnlyLooks k k'
only_one k k' l c = record { looks = l ∷ []; made = looks_one k k' l c }

pub only_then : (k k1 k2 : Known) → OnlyLooks k k1 → OnlyLooks k1 k2 → OnlyLooks k k2
only_then k k1 k2 a b = record { looks = a.looks ++ b.looks; made = looks_then k k1 k2 a.looks b.looks a.made b.made }
