-- What holds of two lists of events holds of both after each other.
use Rattle.std.proofs.Common.{◌≡◌, ℕ, ◌+◌, List, [], ◌∷◌, ◌++◌, length, refl, sym, ◌∙◌, ap, arith, append_assoc, append-nil, Option, Some, None}
use Rattle.dns_events.specs.declared.look.Look.{Look}
use Rattle.dns_admission.specs.declared.call.Call.{Call}
use Rattle.dns_admission.specs.declared.call.Call.TheVariants.{Look as ToLook}
use Rattle.dns_admission.specs.declared.call.Reply.{Reply}
use Rattle.dns_admission.specs.declared.call.Reply.TheVariants.{Look as Shown}
use Rattle.dns_book.specs.Gains.{Gained, with_calls}
use Rattle.dns_book.specs.History.{SeatName, entry, with_entry}
use Rattle.dns_book.specs.Seats.{Called}
use Rattle.dns_book.specs.declared.history.Entry.{Entry}
use Rattle.dns_book.specs.declared.history.Known.{Known}
use Rattle.dns_book.specs.declared.history.Share.{Share}
use Rattle.dns_events.specs.declared.event.Event.{Event}
use Rattle.dns_events.specs.declared.event.EventKind.{EventKind}
use Rattle.dns_events.specs.declared.event.Output.{Output}
use Rattle.dns_events.specs.declared.event.Why.{Why}
use Rattle.dns_session.specs.After.{slate_after, sent_after}
use Rattle.dns_session.specs.Rule.{rule}
use Rattle.dns_session.specs.Serving.{Serving}
use Rattle.dns_session.specs.Slate.{Slate}
use Rattle.dns_recorder.specs.Clocks.{faults_in}
use Rattle.dns_recorder.specs.Woven.{own_kinds, AllOf, seen_with, seen_all, news_kinds, woven, look_entries}
use Rattle.dns_stream_driver.specs.Closing.{closed_by}
use Rattle.dns_stream_driver.specs.Links.{pieces_in, AllFull, ticks_in, ends_in}
use Rattle.dns_stream_driver.specs.Rounds.{turned, turned_all, Rounds}
use Rattle.dns_stream_driver.specs.Story.{LastOf, all_but_last, LooksAlone}
use Rattle.dns_stream_driver.specs.Steps.{LookedOnce}

pub own_append : (es fs : List Event) → own_kinds (es ++ fs) ≡ own_kinds es ++ own_kinds fs
own_append [] fs = refl
own_append (e ∷ es) fs = simp (append_assoc, own_append es fs)

pub all_of_append : (client : ℕ) (es fs : List Event) → AllOf client es → AllOf client fs → AllOf client (es ++ fs)
all_of_append client [] fs a b = b
all_of_append client (e ∷ es) fs a b = (a.0, all_of_append client es fs a.1 b)

look_entries_append : (name : SeatName) (ls ms : List Look) → look_entries name (ls ++ ms) ≡ look_entries name ls ++ look_entries name ms
look_entries_append name [] ms = refl
look_entries_append name (l ∷ ls) ms = ap (λ (t : List Entry). entry name ToLook (Shown l) ∷ t) (look_entries_append name ls ms)

pub seen_snoc : (first : Look) (ls : List Look) (l : Look) → seen_all first (ls ++ l ∷ []) ≡ seen_with (seen_all first ls) l
seen_snoc first [] l = refl
seen_snoc first (m ∷ ls) l = seen_snoc (seen_with first m) ls l

pub pieces_append : (es fs : List Event) → pieces_in (es ++ fs) ≡ pieces_in es ++ pieces_in fs
pieces_append [] fs = refl
pieces_append (e ∷ es) fs = simp (append_assoc, pieces_append es fs)

pub full_append : (es fs : List Event) → AllFull es → AllFull fs → AllFull (es ++ fs)
full_append [] fs a b = b
full_append (e ∷ es) fs a b = (a.0, full_append es fs a.1 b)

pub ticks_append : (es fs : List Event) → ticks_in (es ++ fs) ≡ ticks_in es + ticks_in fs
ticks_append [] fs = omega arith
ticks_append (e ∷ es) fs = let h = ticks_append es fs in omega arith

pub ends_append : (es fs : List Event) → ends_in (es ++ fs) ≡ ends_in es + ends_in fs
ends_append [] fs = omega arith
ends_append (e ∷ es) fs = let h = ends_append es fs in omega arith

pub faults_append : (es fs : List Event) → faults_in (es ++ fs) ≡ faults_in es + faults_in fs
faults_append [] fs = omega arith
faults_append (e ∷ es) fs = let h = faults_append es fs in omega arith

pub turned_append : (below : ℕ) (es fs : List Event) → turned_all below (es ++ fs) ≡ turned_all (turned_all below es) fs
turned_append below [] fs = refl
turned_append below (e ∷ es) fs = turned_append (turned below e.kind) es fs

pub all_but_snoc : (es : List Event) (e : Event) → all_but_last (es ++ e ∷ []) ≡ es
all_but_snoc [] e = refl
all_but_snoc (f ∷ []) e = refl
all_but_snoc (f ∷ g ∷ es) e = ap (λ (t : List Event). f ∷ t) (all_but_snoc (g ∷ es) e)

-- a look more, and then an own event
pub woven_look : (first l : Look) (ls : List Look) (ks : List EventKind) → length ls ≡ length ks →
    woven first (ls ++ l ∷ []) ks ≡ woven first ls ks ++ news_kinds (seen_all first ls) l
woven_look first l [] [] e = append-nil (news_kinds first l)
woven_look first l [] (k ∷ ks) e = absurd (omega arith)
woven_look first l (m ∷ ls) [] e = absurd (omega arith)
woven_look first l (m ∷ ls) (k ∷ ks) e =
    let f : length ls ≡ length ks = omega arith in
    rw (woven_look (seen_with first m) l ls ks f) (simp append_assoc)

pub woven_own : (first : Look) (k : EventKind) (ls : List Look) (ks : List EventKind) → length ls ≡ length ks + 1 →
    woven first ls (ks ++ k ∷ []) ≡ woven first ls ks ++ k ∷ []
woven_own first k [] ks e = absurd (omega arith)
woven_own first k (m ∷ []) [] e = simp append-nil
woven_own first k (m ∷ l ∷ ls) [] e = absurd (omega arith)
woven_own first k (m ∷ ls) (j ∷ ks) e =
    let f : length ls ≡ length ks + 1 = omega arith in
    rw (woven_own (seen_with first m) k ls ks f) (simp append_assoc)

module _ (answers : Serving) where
  pub after_append : (s : Slate) (es fs : List Event) → slate_after answers s (es ++ fs) ≡ slate_after answers (slate_after answers s es) fs
  after_append s [] fs = refl
  after_append s (e ∷ es) fs = after_append (rule answers e s).0 es fs

  pub sent_append : (s : Slate) (es fs : List Event) → sent_after answers s (es ++ fs) ≡ sent_after answers s es ++ sent_after answers (slate_after answers s es) fs
  sent_append s [] fs = refl
  sent_append s (e ∷ es) fs = simp (append_assoc, sent_append (rule answers e s).0 es fs)

  pub rounds_append : (below : ℕ) (s : Slate) (es fs : List Event) → Rounds answers below s es → Rounds answers (turned_all below es) (slate_after answers s es) fs → Rounds answers below s (es ++ fs)
  rounds_append below s [] fs a b = b
  rounds_append below s (e ∷ es) fs a b = (a.0, rounds_append (turned below e.kind) (rule answers e s).0 es fs a.1 b)

  -- the last event of the later ones closes
  pub last_own : (s : Slate) (es : List Event) (event : Event) (why : Option Why) → closed_by (rule answers event (slate_after answers s es)).1 ≡ why → LastOf answers s (es ++ event ∷ []) why
  last_own s es event None e = tt
  last_own s es event (Some why) e = record { before = es; event = event; is = refl; closes = e }

  pub last_later : (s : Slate) (es hs : List Event) (why : Option Why) → LastOf answers (slate_after answers s es) hs why → LastOf answers s (es ++ hs) why
  last_later s es hs None l = tt
  last_later s es hs (Some why) l = record { before = es ++ l.before; event = l.event; is = ap (λ (x : List Event). es ++ x) l.is ∙ sym (append_assoc es l.before (l.event ∷ [])); closes = rw (after_append s es l.before) l.closes }

-- outputs that come later decide, if there are some
closed_tail : (os : List Output) (p : Output) (ps : List Output) → closed_by (os ++ p ∷ ps) ≡ closed_by (p ∷ ps)
closed_tail [] p ps = refl
closed_tail (o ∷ []) p ps = refl
closed_tail (o ∷ q ∷ os) p ps = closed_tail (q ∷ os) p ps

pub closed_more : (os ps : List Output) (why : Option Why) → closed_by os ≡ None → closed_by ps ≡ why → closed_by (os ++ ps) ≡ why
closed_more os [] why a b = rw (append-nil os) (a ∙ b)
closed_more os (p ∷ ps) why a b = closed_tail os p ps ∙ b

-- a seat's calls, and one more
with_calls_append : (es fs : List Entry) (m : List Share) → with_calls (es ++ fs) m ≡ with_calls fs (with_calls es m)
with_calls_append [] fs m = refl
with_calls_append (e ∷ es) fs m = with_calls_append es fs (with_entry e.by e m)

seen_more : (old between more now last : List Entry) → now ≡ old ++ between → last ≡ now ++ more → last ≡ old ++ (between ++ more)
seen_more old between more now last a b = rw (b, a) (append_assoc old between more)

pub gained_more : (k k1 k2 : Known) (es : List Entry) (call : Call) (reply : Reply) → Gained k es k1 → k1.name ≡ k.name → Called k1 call reply k2 → Gained k (es ++ entry k.name call reply ∷ []) k2
gained_more k k1 k2 es call reply g n c = record {
  same_book = c.same_book ∙ g.same_book;
  seen = (g.seen.0 ++ (c.seen.0 ++ entry k1.name call reply ∷ []), seen_more k.seen g.seen.0 (c.seen.0 ++ entry k1.name call reply ∷ []) k1.seen k2.seen g.seen.1 (c.seen.1 ∙ append_assoc k1.seen c.seen.0 (entry k1.name call reply ∷ [])));
  mine = rw (c.mine, n, g.mine) (sym (with_calls_append es (entry k.name call reply ∷ []) k.mine));
}

pub gained_look : (k k1 k2 : Known) (ls : List Look) (l : Look) → Gained k (look_entries k.name ls) k1 → k1.name ≡ k.name → Called k1 ToLook (Shown l) k2 → Gained k (look_entries k.name (ls ++ l ∷ [])) k2
gained_look k k1 k2 ls l g n c = rw (look_entries_append k.name ls (l ∷ [])) (gained_more k k1 k2 (look_entries k.name ls) ToLook (Shown l) g n c)

pub gained_none : (k : Known) → Gained k [] k
gained_none k = record { same_book = refl; seen = ([], sym (append-nil k.seen)); mine = refl }

pub looks_none : (k : Known) → LooksAlone k k
looks_none k = record { looks = []; calls = gained_none k; name = refl }

pub looks_more : (k k1 k2 : Known) → LooksAlone k k1 → LookedOnce k1 k2 → LooksAlone k k2
looks_more k k1 k2 a b = record { looks = a.looks ++ b.look ∷ []; calls = gained_look k k1 k2 a.looks b.look a.calls a.name b.called; name = b.called.same_name ∙ a.name }
