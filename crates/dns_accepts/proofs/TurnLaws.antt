-- One turn more of the loop of accepts.
use Rattle.std.proofs.Common.{◌≡◌, ℕ, ◌+◌, Bool, false, List, [], ◌∷◌, ◌++◌, length, replicate, sym, ap, ◌∙◌, subst, append-nil, append_assoc, Result, arith, add_assoc}
use Rattle.std.proofs.lemmas.List.{replicate-append-replicate, length-append}
use Rattle.std.proofs.lemmas.List.Elements.{All-nil, All-cons, All-append}
use Rattle.dns_name.specs.declared.address.SocketAddr.{SocketAddr}
use Rattle.dns_name.specs.declared.error.OutOfMemory.{OutOfMemory}
use Rattle.dns_events.specs.declared.look.Look.{Look}
use Rattle.dns_admission.specs.declared.call.Call.TheVariants.{Look as ToLook}
use Rattle.dns_admission.specs.declared.call.Reply.TheVariants.{Look as Shown}
use Rattle.dns_book.specs.Seats.{Called}
use Rattle.dns_book.specs.History.{SeatName}
use Rattle.dns_book.specs.Gains.{Gained}
use Rattle.dns_book.specs.declared.history.Entry.{Entry}
use Rattle.dns_book.specs.declared.history.Known.{Known}
use Rattle.dns_io.specs.AcceptTraffic.{AcceptTraffic}
use Rattle.dns_accepts.specs.Accepting.{Came, AcceptTurn, caller, callers_in, admitted_caller, admitted_callers_in, one_if_nobody, nobody_in, one_if_failure, failures_in, halved, admit_entries, look_entry, turn_entries, RoseBy, LetIn, TookTurns}
use Rattle.dns_accepts.specs.Arrivals.{GaveSo, BroughtIn, Brought}
use Rattle.dns_accepts.specs.declared.taking.Arrival.{Arrival}
use Rattle.dns_accepts.proofs.GainedLaws.{gained_one, gained_both}
use Rattle.dns_accepts.proofs.ObservedLaws.{tells_then}

pub halved-twice : (n : SeatName) (xs ys : List SocketAddr) → halved (halved n xs) ys ≡ halved n (xs ++ ys)
halved-twice n xs ys =
    append_assoc n (replicate (length xs) false) (replicate (length ys) false)
    ∙ ap (λ (l : List Bool). n ++ l) (replicate-append-replicate (length xs) (length ys) false ∙ ap (λ (c : ℕ). replicate c false) (sym (length-append xs ys)))

pub callers-snoc : (ts : List AcceptTurn) (t : AcceptTurn) → callers_in (ts ++ t ∷ []) ≡ callers_in ts ++ caller t.came
callers-snoc [] t = append-nil (caller t.came)
callers-snoc (x ∷ xs) t = ap (λ (l : List SocketAddr). caller x.came ++ l) (callers-snoc xs t) ∙ sym (append_assoc (caller x.came) (callers_in xs) (caller t.came))

pub admitted-snoc : (ts : List AcceptTurn) (t : AcceptTurn) → admitted_callers_in (ts ++ t ∷ []) ≡ admitted_callers_in ts ++ admitted_caller t.came
admitted-snoc [] t = append-nil (admitted_caller t.came)
admitted-snoc (x ∷ xs) t = ap (λ (l : List SocketAddr). admitted_caller x.came ++ l) (admitted-snoc xs t) ∙ sym (append_assoc (admitted_caller x.came) (admitted_callers_in xs) (admitted_caller t.came))

nobody-snoc : (ts : List AcceptTurn) (t : AcceptTurn) → nobody_in (ts ++ t ∷ []) ≡ nobody_in ts + one_if_nobody t.came
nobody-snoc [] t = omega arith
nobody-snoc (x ∷ xs) t = ap (λ (n : ℕ). one_if_nobody x.came + n) (nobody-snoc xs t) ∙ sym (add_assoc (one_if_nobody x.came) (nobody_in xs) (one_if_nobody t.came))

failures-snoc : (ts : List AcceptTurn) (t : AcceptTurn) → failures_in (ts ++ t ∷ []) ≡ failures_in ts + one_if_failure t.came
failures-snoc [] t = omega arith
failures-snoc (x ∷ xs) t = ap (λ (n : ℕ). one_if_failure x.came + n) (failures-snoc xs t) ∙ sym (add_assoc (one_if_failure x.came) (failures_in xs) (one_if_failure t.came))

entries-snoc : (n : SeatName) (ts : List AcceptTurn) (t : AcceptTurn) →
    turn_entries n (ts ++ t ∷ []) ≡ turn_entries n ts ++ (look_entry (halved n (admitted_callers_in ts)) t.look ∷ admit_entries (halved n (admitted_callers_in ts)) t.came)
entries-snoc n [] t =
    ap (λ (l : List Entry). look_entry n t.look ∷ l) (append-nil (admit_entries n t.came))
    ∙ ap (λ (m : SeatName). look_entry m t.look ∷ admit_entries m t.came) (sym (append-nil n))
entries-snoc n (x ∷ xs) t =
    let m : SeatName = halved n (admitted_caller x.came) in
    let last : SeatName → List Entry = λ k. look_entry k t.look ∷ admit_entries k t.came in
    ap (λ (l : List Entry). look_entry n x.look ∷ (admit_entries n x.came ++ l))
    (entries-snoc m xs t ∙ ap (λ (k : SeatName). turn_entries m xs ++ last k) (halved-twice n (admitted_caller x.came) (admitted_callers_in xs)))
    ∙ ap (λ (l : List Entry). look_entry n x.look ∷ l) (sym (append_assoc (admit_entries n x.came) (turn_entries m xs) (last (halved n (admitted_callers_in (x ∷ xs))))))

pub rose_by_more : (i j a b c : ℕ) → RoseBy i a b → RoseBy j b c → RoseBy (i + j) a c
rose_by_more i j a b c h k = grind (arith, h, k)

-- the calls of whole turns, a look, and the admit of one turn more
turn_calls : (turns : List AcceptTurn) (look : Look) (came : Came) (k k1 k2 k3 : Known) →
    Gained k (turn_entries k.name turns ++ []) k1 → k1.name ≡ halved k.name (admitted_callers_in turns) → Called k1 ToLook (Shown look) k2 → Gained k2 (admit_entries k2.name came) k3 →
    Gained k (turn_entries k.name (turns ++ (record { look = look; came = came }) ∷ []) ++ []) k3
turn_calls turns look came k k1 k2 k3 g n l h =
    let t : AcceptTurn = record { look = look; came = came } in
    let m : SeatName = halved k.name (admitted_callers_in turns) in
    let one : Gained k1 (look_entry m look ∷ []) k2 = subst (λ (x : SeatName). Gained k1 (look_entry x look ∷ []) k2) n (gained_one k1 ToLook (Shown look) k2 l) in
    let two : Gained k2 (admit_entries m came) k3 = subst (λ (x : SeatName). Gained k2 (admit_entries x came) k3) (l.same_name ∙ n) h in
    let all : Gained k ((turn_entries k.name turns ++ []) ++ ((look_entry m look ∷ []) ++ admit_entries m came)) k3 =
    gained_both k _ k1 _ k3 g (gained_both k1 (look_entry m look ∷ []) k2 (admit_entries m came) k3 one two) in
    subst (λ (es : List Entry). Gained k es k3)
    (ap (λ (es : List Entry). es ++ (look_entry m look ∷ admit_entries m came)) (append-nil (turn_entries k.name turns))
    ∙ (sym (entries-snoc k.name turns t) ∙ sym (append-nil (turn_entries k.name (turns ++ t ∷ [])))))
    all

turn_name : (turns : List AcceptTurn) (look : Look) (came : Came) (k k1 k2 k3 : Known) →
    k1.name ≡ halved k.name (admitted_callers_in turns) → k2.name ≡ k1.name → k3.name ≡ halved k2.name (admitted_caller came) →
    k3.name ≡ halved k.name (admitted_callers_in (turns ++ (record { look = look; came = came }) ∷ []))
turn_name turns look came k k1 k2 k3 n same h =
    h ∙ (ap (λ (m : SeatName). halved m (admitted_caller came)) (same ∙ n)
    ∙ (halved-twice k.name (admitted_callers_in turns) (admitted_caller came) ∙ ap (λ (l : List SocketAddr). halved k.name l) (sym (admitted-snoc turns (record { look = look; came = came })))))

turn_in : (turns : List AcceptTurn) (look : Look) (came : Came) (a b c : AcceptTraffic) → LetIn turns a b → c.callers ≡ b.callers ++ caller came → c.empty_accepts ≡ b.empty_accepts + one_if_nobody came →
    LetIn (turns ++ (record { look = look; came = came }) ∷ []) a c
turn_in turns look came a b c h callers nobody =
    let t : AcceptTurn = record { look = look; came = came } in record {
      callers = callers ∙ (ap (λ (l : List SocketAddr). l ++ caller came) h.callers ∙ (append_assoc a.callers (callers_in turns) (caller came) ∙ ap (λ (l : List SocketAddr). a.callers ++ l) (sym (callers-snoc turns t))));
      nobody = nobody ∙ (ap (λ (n : ℕ). n + one_if_nobody came) h.nobody ∙ (add_assoc a.empty_accepts (nobody_in turns) (one_if_nobody came) ∙ ap (λ (n : ℕ). a.empty_accepts + n) (sym (nobody-snoc turns t))));
    }

-- a turn more, whatever works it gave
pub turn_more : (turns : List AcceptTurn) (look : Look) (arrival : Result Arrival OutOfMemory) (now mid before works more : Type 0) (k k1 k2 k3 : Known) (a b c : AcceptTraffic) (h i : List SocketAddr) (f f1 f2 : ℕ) →
    TookTurns turns [] mid before works k k1 a b f f1 → Called k1 ToLook (Shown look) k2 → look.closed ≡ false → (q : Brought arrival now mid k2 k3 b c h i f1 f2) →
    (works → GaveSo arrival (admitted_caller q.came) h i → more) →
    TookTurns (turns ++ (record { look = look; came = q.came }) ∷ []) [] now before more k k3 a c f f2
turn_more turns look arrival now mid before works more k k1 k2 k3 a b c h i f f1 f2 s l running q gives = record {
  calls = turn_calls turns look q.came k k1 k2 k3 s.calls s.name l q.calls;
  running = All-append (λ (t : AcceptTurn). t.look.closed ≡ false) turns _ s.running (All-cons (λ (t : AcceptTurn). t.look.closed ≡ false) (record { look = look; came = q.came }) [] running (All-nil _));
  name = turn_name turns look q.came k k1 k2 k3 s.name l.same_name q.name;
  faults = subst (λ (n : ℕ). RoseBy n f f2) (sym (failures-snoc turns (record { look = look; came = q.came }))) (rose_by_more (failures_in turns) (one_if_failure q.came) f f1 f2 s.faults q.faults);
  observed = tells_then now mid before (LetIn turns a b × works) (BroughtIn arrival q.came b c h i) (LetIn (turns ++ (record { look = look; came = q.came }) ∷ []) a c × more)
      (λ x y. (turn_in turns look q.came a b c x.0 y.callers y.nobody, gives x.1 y.works)) s.observed q.observed;
}
