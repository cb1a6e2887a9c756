-- The loop of accepts: how it begins, goes on and ends.
use Rattle.std.proofs.Common.{◌≡◌, ◌≢◌, ℕ, ◌+◌, ◌^◌, ◌-◌, min, ◌<◌, Bool, true, false, List, [], ◌∷◌, ◌++◌, length, refl, sym, ap, ◌∙◌, subst, append-nil, append_assoc, Ok, Err, Some, inl, inr, ◌≤◌, arith, add-zero, ◌||◌}
use Rattle.std.proofs.lemmas.List.{length-append}
use Rattle.std.proofs.lemmas.List.Elements.{All-nil}
use Rattle.dns_name.specs.declared.address.SocketAddr.{SocketAddr}
use Rattle.dns_name.specs.declared.error.OutOfMemory.{OutOfMemory}
use Rattle.dns_events.specs.declared.look.Look.{Look}
use Rattle.dns_admission.specs.declared.admission.Admission.TheVariants.{Admitted, Full, Closed}
use Rattle.dns_admission.specs.declared.call.Call.TheVariants.{Look as ToLook}
use Rattle.dns_admission.specs.declared.call.Reply.TheVariants.{Look as Shown}
use Rattle.dns_book.specs.Seats.{Called}
use Rattle.dns_book.specs.History.{SeatName}
use Rattle.dns_book.specs.Gains.{Gained}
use Rattle.dns_book.specs.declared.history.Entry.{Entry}
use Rattle.dns_book.specs.declared.history.Known.{Known}
use Rattle.dns_io.specs.Causes.{Rose}
use Rattle.dns_io.specs.AcceptTraffic.{AcceptTraffic}
use Rattle.dns_accepts.specs.Accepting.{Came, Caller, Nobody, Fault, AcceptTurn, caller, callers_in, admitted_caller, admitted_callers_in, look_entry, turn_entries, Gave, EndsAdmitted, TookCount, TookUntilShut, TookAlmost, AcceptsTo}
use Rattle.dns_accepts.specs.declared.accepts.AcceptEnd.{AcceptEnd}
use Rattle.dns_accepts.specs.declared.accepts.AcceptEnd.TheVariants.{Shutdown, Counted, OutOfMemory as NoMemory}
use Rattle.dns_accepts.specs.Arrivals.{ArrivalOf, Brought, arrival_callers, is_faulty, StartFaults, AcceptFaults, RoseWhere, TookSoFar, EndedSo}
use Rattle.dns_accepts.specs.declared.taking.Arrival.{Arrival}
use Rattle.dns_accepts.specs.declared.taking.Arrival.TheVariants.{WorkStarted, Refused, TurnedAway, Nobody as NobodyCame, Fault as FaultCame}
use Rattle.dns_accepts.proofs.GainedLaws.{gained_none, gained_one, gained_both}
use Rattle.dns_accepts.proofs.BroughtLaws.{rose_none}
use Rattle.dns_accepts.proofs.TurnLaws.{admitted-snoc, callers-snoc, turn_more}

pub so_far_none : (count : ℕ) (now : Type 0) (k : Known) (a : AcceptTraffic) (g : List SocketAddr) (f : ℕ) → TookSoFar count 0 now now k k a a g g f f
so_far_none count now k a g f = record {
  turns = [];
  turned = record {
    calls = gained_none k;
    running = All-nil _;
    name = sym (append-nil k.name);
    faults = rose_none f f refl;
    observed = record { observed = λ n. (n, (record { callers = sym (append-nil a.callers); nobody = sym (add-zero a.empty_accepts) }, sym (append-nil g))) };
  };
  counted = λ some. (refl, omega arith);
}

gave_more : (turns : List AcceptTurn) (look : Look) (came : Came) (g h i : List SocketAddr) → Gave (admitted_callers_in turns) g h → Gave (admitted_caller came) h i →
    Gave (admitted_callers_in (turns ++ (record { look = look; came = came }) ∷ [])) g i
gave_more turns look came g h i x y =
    y ∙ (ap (λ (l : List SocketAddr). l ++ admitted_caller came) x
    ∙ (append_assoc g (admitted_callers_in turns) (admitted_caller came) ∙ ap (λ (l : List SocketAddr). g ++ l) (sym (admitted-snoc turns (record { look = look; came = came })))))

caller_one : (came : Came) → length (caller came) ≤ 1
caller_one (Caller from answer) = omega arith
caller_one Nobody = omega arith
caller_one Fault = omega arith

callers_few : (arrival : Arrival) → arrival_callers arrival ≤ 1
callers_few WorkStarted = omega arith
callers_few Refused = omega arith
callers_few TurnedAway = omega arith
callers_few NobodyCame = omega arith
callers_few FaultCame = omega arith

count_more : (count taken taken' n m : ℕ) → taken ≡ n → taken ≤ count → taken ≢ count → m ≤ 1 → count ≤ 2 ^ 64 - 1 → taken' ≡ min (taken + m) (2 ^ 64 - 1) → (taken' ≡ n + m) × (taken' ≤ count)
count_more count taken taken' n m is few less one fits next = (grind (arith, is, few, less, one, fits, next), grind (arith, is, few, less, one, fits, next))

-- one turn more
pub so_far_more : (arrival : Arrival) (count taken taken' : ℕ) (look : Look) (now mid before : Type 0) (k k1 k2 k3 : Known) (a b c : AcceptTraffic) (g h i : List SocketAddr) (f f1 f2 : ℕ) →
    TookSoFar count taken mid before k k1 a b g h f f1 → Called k1 ToLook (Shown look) k2 → look.closed ≡ false → Brought (Ok arrival) now mid k2 k3 b c h i f1 f2 →
    (count ≢ 0 → taken ≢ count) → count ≤ 2 ^ 64 - 1 → taken' ≡ min (taken + arrival_callers arrival) (2 ^ 64 - 1) →
    TookSoFar count taken' now before k k3 a c g i f f2
so_far_more arrival count taken taken' look now mid before k k1 k2 k3 a b c g h i f f1 f2 s l running q less fits next = record {
  turns = s.turns ++ (record { look = look; came = q.came }) ∷ [];
  turned = turn_more s.turns look (Ok arrival) now mid before (Gave (admitted_callers_in s.turns) g h) _ k k1 k2 k3 a b c h i f f1 f2 s.turned l running q
      (gave_more s.turns look q.came g h i);
  counted = λ some. let y = s.counted some in
      let x = count_more count taken taken' (length (callers_in s.turns)) (arrival_callers arrival) y.0 y.1 (less some) (callers_few arrival) fits next in (
        x.0 ∙ (ap (λ (n : ℕ). length (callers_in s.turns) + n) (sym q.arrival_is)
            ∙ (sym (length-append (callers_in s.turns) (caller q.came)) ∙ ap (λ (l : List SocketAddr). length l) (sym (callers-snoc s.turns (record { look = look; came = q.came }))))),
        x.1,
      );
}

-- that many were to come
so_far_counted : (count taken : ℕ) (now before : Type 0) (k k' : Known) (a b : AcceptTraffic) (g h : List SocketAddr) (f f' : ℕ) →
    TookSoFar count taken now before k k' a b g h f f' → count ≢ 0 → taken ≡ count → TookCount count now before k k' a b g h f f'
so_far_counted count taken now before k k' a b g h f f' s some all = record {
  turns = s.turns;
  some = some;
  all = sym (s.counted some).0 ∙ all;
  turned = s.turned;
}

fewer_by : (count taken n : ℕ) → taken ≡ n → taken ≤ count → taken ≢ count → n < count
fewer_by count taken n is few less = grind (arith, is, few, less)

-- a look showed a shutdown
so_far_shut : (count taken : ℕ) (look : Look) (now before : Type 0) (k k1 k2 : Known) (a b : AcceptTraffic) (g h : List SocketAddr) (f f' : ℕ) →
    TookSoFar count taken now before k k1 a b g h f f' → Called k1 ToLook (Shown look) k2 → look.closed ≡ true → (count ≢ 0 → taken ≢ count) →
    TookUntilShut count now before k k2 a b g h f f'
so_far_shut count taken look now before k k1 k2 a b g h f f' s l shut less = record {
  turns = s.turns;
  look = look;
  shut = shut;
  fewer = λ some. let y = s.counted some in fewer_by count taken (length (callers_in s.turns)) y.0 y.1 (less some);
  turned = record {
    calls = subst (λ (es : List Entry). Gained k es k2)
        (ap (λ (es : List Entry). es ++ look_entry k1.name look ∷ []) (append-nil (turn_entries k.name s.turns))
        ∙ ap (λ (n : SeatName). turn_entries k.name s.turns ++ look_entry n look ∷ []) (sym l.same_name))
        (gained_both k _ k1 _ k2 s.turned.calls (gained_one k1 ToLook (Shown look) k2 l));
    running = s.turned.running;
    name = l.same_name ∙ s.turned.name;
    faults = s.turned.faults;
    observed = s.turned.observed;
  };
}

-- the loop ends before an accept
pub so_far_ended : (end : AcceptEnd) (count taken : ℕ) (now before : Type 0) (k k1 k2 : Known) (a b : AcceptTraffic) (g h : List SocketAddr) (f f' : ℕ) →
    TookSoFar count taken now before k k1 a b g h f f' → EndedSo (Some end) count taken k1 k2 → AcceptsTo end count now before k k2 a b g h f f'
so_far_ended Counted count taken now before k k1 k2 a b g h f f' s e =
    subst (λ (x : Known). TookCount count now before k x a b g h f f') (sym e.2) (so_far_counted count taken now before k k1 a b g h f f' s e.0 e.1)
so_far_ended Shutdown count taken now before k k1 k2 a b g h f f' s e = so_far_shut count taken e.1.look now before k k1 k2 a b g h f f' s e.1.called e.1.shown e.0
so_far_ended NoMemory count taken now before k k1 k2 a b g h f f' s e = absurd e

ends_admitted : (turns : List AcceptTurn) (look : Look) (came : Came) (e : OutOfMemory) → ArrivalOf (Err e) came → EndsAdmitted (turns ++ (record { look = look; came = came }) ∷ []) turns
ends_admitted turns look (Caller from (Admitted shown)) e h = record { look = look; from = from; shown = shown; is = refl }
ends_admitted turns look (Caller from (Full taken limit accepted)) e h = absurd h
ends_admitted turns look (Caller from Closed) e h = absurd h
ends_admitted turns look Nobody e h = absurd h
ends_admitted turns look Fault e h = absurd h

-- if fewer came than were to come, one more may
one_more_within : (turns : List AcceptTurn) (look : Look) (came : Came) (count taken : ℕ) → taken ≡ length (callers_in turns) → taken ≤ count → taken ≢ count →
    length (callers_in (turns ++ (record { look = look; came = came }) ∷ [])) ≤ count
one_more_within turns look came count taken is few less =
    let one = caller_one came in
    let all : length (callers_in turns ++ caller came) ≡ length (callers_in turns) + length (caller came) = length-append (callers_in turns) (caller came) in
    rw (callers-snoc turns (record { look = look; came = came })) (grind (arith, is, few, less, one, all))

-- memory ran out
pub so_far_lost : (e : OutOfMemory) (count taken : ℕ) (look : Look) (now mid before : Type 0) (k k1 k2 k3 : Known) (a b c : AcceptTraffic) (g h i : List SocketAddr) (f f1 f2 : ℕ) →
    TookSoFar count taken mid before k k1 a b g h f f1 → Called k1 ToLook (Shown look) k2 → look.closed ≡ false → Brought (Err e) now mid k2 k3 b c h i f1 f2 → (count ≢ 0 → taken ≢ count) →
    TookAlmost count now before k k3 a c g i f f2
so_far_lost e count taken look now mid before k k1 k2 k3 a b c g h i f f1 f2 s l running q less = record {
  turns = s.turns ++ (record { look = look; came = q.came }) ∷ [];
  whole = s.turns;
  last = ends_admitted s.turns look q.came e q.arrival_is;
  within = λ some. let y = s.counted some in one_more_within s.turns look q.came count taken y.0 y.1 (less some);
  turned = turn_more s.turns look (Err e) now mid before (Gave (admitted_callers_in s.turns) g h) _ k k1 k2 k3 a b c h i f f1 f2 s.turned l running q
      (λ x y. elim y [ inl z ↦ inl (gave_more s.turns look q.came g h i x z) | inr z ↦ inr ((z ∙ append-nil h) ∙ x) ]);
}

-- the flag says whether one of the two counts rose
pub rose_where_none : (a b : ℕ) → RoseWhere false a a b b
rose_where_none a b = (refl, refl)

rose_later : (a b c : ℕ) → Rose a b → b ≤ c → Rose a c
rose_later a b c r l = grind (arith, r, l)

pub rose_where_more : (risen : Bool) (arrival : Arrival) (a b c d e f : ℕ) → RoseWhere risen a b d e → AcceptFaults (Ok arrival) b c → StartFaults (Ok arrival) e f → b ≤ c → e ≤ f →
    RoseWhere (risen || is_faulty arrival) a c d f
rose_where_more true arrival a b c d e f r x y m n = elim r [ inl z ↦ inl (rose_later a b c z m) | inr z ↦ inr (rose_later d e f z n) ]
rose_where_more false WorkStarted a b c d e f r x y m n = (x ∙ r.0, y ∙ r.1)
rose_where_more false Refused a b c d e f r x y m n = inr (subst (λ (z : ℕ). Rose z f) r.1 y)
rose_where_more false TurnedAway a b c d e f r x y m n = (x ∙ r.0, y ∙ r.1)
rose_where_more false NobodyCame a b c d e f r x y m n = (x ∙ r.0, y ∙ r.1)
rose_where_more false FaultCame a b c d e f r x y m n = inl (subst (λ (z : ℕ). Rose z c) r.0 x)

pub rose_where_lost : (risen : Bool) (m : OutOfMemory) (a b c d e f : ℕ) → RoseWhere risen a b d e → AcceptFaults (Err m) b c → StartFaults (Err m) e f → RoseWhere risen a c d f
rose_where_lost risen m a b c d e f r x y = rw (x, y) r
