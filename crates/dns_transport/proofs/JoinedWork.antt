-- How a loop of accepts went stays so when all work is joined.
use Rattle.std.proofs.Common.{◌≡◌, ◌≢◌, ◌⊎◌, ℕ, List, ◌∙◌, refl, inl, inr}
use Rattle.dns_name.specs.declared.address.SocketAddr.{SocketAddr}
use Rattle.dns_book.specs.declared.history.Entry.{Entry}
use Rattle.dns_book.specs.declared.history.Known.{Known}
use Rattle.dns_io.specs.Causes.{Observed}
use Rattle.dns_io.specs.AcceptTraffic.{AcceptTraffic}
use Rattle.dns_host.specs.Accepting.{AcceptTurn, TookTurns, TookUntilShut, TookAlmost, AcceptsTo, Gave, admitted_callers_in}
use Rattle.dns_host.specs.AcceptEnd.{AcceptEnd}
use Rattle.dns_host.specs.AcceptEnd.TheVariants.{Shutdown as Stopped, Counted, OutOfMemory as Lacking}
use Rattle.dns_transport.specs.Runs.{EndsAs, ConnectionsRan}
use Rattle.dns_transport.specs.declared.stream.StreamEnd.{StreamEnd}
use Rattle.dns_transport.specs.declared.stream.StreamEnd.TheVariants.{Shutdown as ShutDown, OutOfMemory}

turns_joined : (turns : List AcceptTurn) (more : List Entry) (a p p' before works works' same : Type 0) (k k' : Known) (d d' : AcceptTraffic) (f f' : ℕ) →
    TookTurns turns more (a × p) before works k k' d d' f f' → Observed p' p same → (same → works → works') → TookTurns turns more (a × p') before works' k k' d d' f f'
turns_joined turns more a p p' before works works' same k k' d d' f f' t j on = record {
  calls = t.calls;
  running = t.running;
  name = t.name;
  faults = t.faults;
  observed = record { observed = λ n. let s = j.observed n.1 in let r = t.observed.observed (n.0, s.0) in (r.0, (r.1.0, on s.1 r.1.1)) };
}

shut_joined : (a p p' before : Type 0) (k k' : Known) (d d' : AcceptTraffic) (g m n : List SocketAddr) (f f' : ℕ) →
    TookUntilShut 0 (a × p) before k k' d d' g m f f' → Observed p' p (n ≡ m) → TookUntilShut 0 (a × p') before k k' d d' g n f f'
shut_joined a p p' before k k' d d' g m n f f' t j = record {
  turns = t.turns;
  look = t.look;
  shut = t.shut;
  fewer = t.fewer;
  turned = turns_joined t.turns _ a p p' before (Gave (admitted_callers_in t.turns) g m) (Gave (admitted_callers_in t.turns) g n) (n ≡ m) k k' d d' f f' t.turned j (λ e w. e ∙ w);
}

gave_on : (xs ys g m n : List SocketAddr) → n ≡ m → Gave xs g m ⊎ Gave ys g m → Gave xs g n ⊎ Gave ys g n
gave_on xs ys g m n e (inl w) = inl (e ∙ w)
gave_on xs ys g m n e (inr w) = inr (e ∙ w)

almost_joined : (a p p' before : Type 0) (k k' : Known) (d d' : AcceptTraffic) (g m n : List SocketAddr) (f f' : ℕ) →
    TookAlmost 0 (a × p) before k k' d d' g m f f' → Observed p' p (n ≡ m) → TookAlmost 0 (a × p') before k k' d d' g n f f'
almost_joined a p p' before k k' d d' g m n f f' t j = record {
  turns = t.turns;
  whole = t.whole;
  last = t.last;
  within = t.within;
  turned = turns_joined t.turns _ a p p' before _ _ (n ≡ m) k k' d d' f f' t.turned j (gave_on (admitted_callers_in t.turns) (admitted_callers_in t.whole) g m n);
}

-- a loop without a count is not counted out
pub not_counted : (end : AcceptEnd) (now before : Type 0) (k k' : Known) (d d' : AcceptTraffic) (g m : List SocketAddr) (f f' : ℕ) → AcceptsTo end 0 now before k k' d d' g m f f' → end ≢ Counted
not_counted Counted now before k k' d d' g m f f' t = absurd (t.some refl)
not_counted Stopped now before k k' d d' g m f f' t = λ same. cc
not_counted Lacking now before k k' d d' g m f f' t = λ same. cc

-- how the loop went, after all work was joined
pub ran_joined : (end : AcceptEnd) (result : StreamEnd) (a p p' before : Type 0) (k k' : Known) (d d' : AcceptTraffic) (g m n : List SocketAddr) (f f' : ℕ) →
    AcceptsTo end 0 (a × p) before k k' d d' g m f f' → Observed p' p (n ≡ m) → EndsAs end result → ConnectionsRan result (a × p') before k k' d d' g n f f'
ran_joined Stopped ShutDown a p p' before k k' d d' g m n f f' t j e = shut_joined a p p' before k k' d d' g m n f f' t j
ran_joined Lacking OutOfMemory a p p' before k k' d d' g m n f f' t j e = almost_joined a p p' before k k' d d' g m n f f' t j
ran_joined Stopped OutOfMemory a p p' before k k' d d' g m n f f' t j e = absurd e
ran_joined Lacking ShutDown a p p' before k k' d d' g m n f f' t j e = absurd e
ran_joined Counted ShutDown a p p' before k k' d d' g m n f f' t j e = absurd e
ran_joined Counted OutOfMemory a p p' before k k' d d' g m n f f' t j e = absurd e
