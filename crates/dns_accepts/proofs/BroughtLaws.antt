-- What one accept brought.
use Rattle.std.proofs.Common.{◌≡◌, ℕ, ◌+◌, List, [], ◌∷◌, ◌++◌, refl, sym, ap, ◌∙◌, append-nil, Ok, Err, Result, arith, add-zero}
use Rattle.dns_name.specs.declared.address.SocketAddr.{SocketAddr}
use Rattle.dns_name.specs.declared.error.OutOfMemory.{OutOfMemory}
use Rattle.dns_admission.specs.declared.admission.Admission.{Admission}
use Rattle.dns_book.specs.declared.history.Known.{Known}
use Rattle.dns_io.specs.Causes.{Rose, Observed}
use Rattle.dns_io.specs.AcceptTraffic.{AcceptTraffic}
use Rattle.dns_accepts.specs.Accepting.{Caller, Nobody, Fault, RoseBy}
use Rattle.dns_accepts.specs.Arrivals.{AskedOne, ArrivalOfAnswer, ArrivalOf, BroughtIn, Brought}
use Rattle.dns_accepts.specs.declared.taking.Arrival.{Arrival}
use Rattle.dns_accepts.specs.declared.taking.Arrival.TheVariants.{Nobody as NobodyCame, Fault as FaultCame}
use Rattle.dns_accepts.proofs.GainedLaws.{gained_none}
use Rattle.dns_accepts.proofs.ObservedLaws.{tells_both}

pub rose_none : (f f' : ℕ) → f' ≡ f → RoseBy 0 f f'
rose_none f f' same = grind (arith, same)

of_caller : (arrival : Result Arrival OutOfMemory) (from : SocketAddr) (answer : Admission) → ArrivalOfAnswer arrival answer → ArrivalOf arrival (Caller from answer)
of_caller (Ok arrival) from answer h = sym h
of_caller (Err e) from answer h = h

-- a connection came, and was asked for
pub brought_caller : (arrival : Result Arrival OutOfMemory) (from : SocketAddr) (na ba np bp : Type 0) (k k' : Known) (a b : AcceptTraffic) (g g' : List SocketAddr) (f f' : ℕ) →
    Observed na ba (b ≡ record a { callers = a.callers ++ from ∷ [] }) → f' ≡ f → AskedOne arrival from np bp k k' g g' → Brought arrival (na × np) (ba × bp) k k' a b g g' f f'
brought_caller arrival from na ba np bp k k' a b g g' f f' t same q = record {
  came = Caller from q.answer;
  calls = q.calls;
  name = q.name;
  arrival_is = of_caller arrival from q.answer q.arrival_is;
  faults = rose_none f f' same;
  observed = tells_both na np ba bp _ _ (BroughtIn arrival (Caller from q.answer) a b g g')
      (λ d w. record { callers = ap (λ (x : AcceptTraffic). x.callers) d; nobody = ap (λ (x : AcceptTraffic). x.empty_accepts) d ∙ sym (add-zero a.empty_accepts); works = w }) t q.works;
}

-- none came
pub brought_nobody : (na ba np bp : Type 0) (k : Known) (a b : AcceptTraffic) (g g' : List SocketAddr) (f f' : ℕ) →
    Observed na ba (b ≡ record a { empty_accepts = a.empty_accepts + 1 }) → f' ≡ f → Observed np bp (g' ≡ g) → Brought (Ok NobodyCame) (na × np) (ba × bp) k k a b g g' f f'
brought_nobody na ba np bp k a b g g' f f' t same kept = record {
  came = Nobody;
  calls = gained_none k;
  name = sym (append-nil k.name);
  arrival_is = refl;
  faults = rose_none f f' same;
  observed = tells_both na np ba bp _ _ (BroughtIn (Ok NobodyCame) Nobody a b g g')
      (λ d w. record { callers = ap (λ (x : AcceptTraffic). x.callers) d ∙ sym (append-nil a.callers); nobody = ap (λ (x : AcceptTraffic). x.empty_accepts) d; works = w ∙ sym (append-nil g) })
      t kept;
}

-- the accept failed
pub brought_fault : (na ba np bp : Type 0) (k : Known) (a b : AcceptTraffic) (g g' : List SocketAddr) (f f' : ℕ) →
    Observed na ba (b ≡ a) → Rose f f' → Observed np bp (g' ≡ g) → Brought (Ok FaultCame) (na × np) (ba × bp) k k a b g g' f f'
brought_fault na ba np bp k a b g g' f f' t rose kept = record {
  came = Fault;
  calls = gained_none k;
  name = sym (append-nil k.name);
  arrival_is = refl;
  faults = rose;
  observed = tells_both na np ba bp _ _ (BroughtIn (Ok FaultCame) Fault a b g g')
      (λ d w. record { callers = ap (λ (x : AcceptTraffic). x.callers) d ∙ sym (append-nil a.callers); nobody = ap (λ (x : AcceptTraffic). x.empty_accepts) d ∙ sym (add-zero a.empty_accepts); works = w ∙ sym (append-nil g) })
      t kept;
}
