-- A loop that does something to each worker, one by one.
use Rattle.std.proofs.Common.{refl, ◌≡◌, ◌∙◌, ◌+◌, ◌<◌, ◌≤◌, ℕ, List, [], ◌∷◌, ◌++◌, length, map, get_or, take, set, sym, subst, below_more, arith}
use Rattle.std.proofs.lemmas.List.{get_or-set_same, get_or-set_other, get_or_default}
use Rattle.atomic_table.specs.Seated.{TableId}
use Rattle.dns_book.specs.Seats.{Joined}
use Rattle.dns_book.specs.declared.history.Known.{Known}
use Rattle.dns_host.specs.declared.host.HostEnd.{HostEnd}
use Rattle.dns_workers.specs.declared.worker.Worker.{Worker}
use Rattle.dns_workers.specs.Workers.{Outcome, HasSeat, IsWith, JoinedAll, worker_seat, end_of_all, end_of_dgrams, graver_end}

module _ {X : Type 0} (P : ℕ → X → X → Type 0) where
  -- of a slice xs this many elements had their turn
  pub record Turned (n : ℕ) (xs ys : List X) : Type 0 where
    pub rest : (j : ℕ) (d : X) → n ≤ j → get_or ys j d ≡ get_or xs j d
    pub done : (j : ℕ) (d : X) → j < n → P j (get_or xs j d) (get_or ys j d)

  pub none_turned : (xs : List X) → Turned 0 xs xs
  none_turned xs = record { rest = λ j d h. refl; done = λ j d h. absurd (omega (arith, h)) }

  -- and then one more had
  pub one_turned : (n : ℕ) (xs ys : List X) (x y : X) → n < length ys → x ≡ get_or ys n x → Turned n xs ys → P n x y → Turned (n + 1) xs (set ys n y)
  one_turned n xs ys x y lt is t here = record {
    rest = λ j d h. get_or-set_other ys n j y d (λ e. omega (arith, h)) ∙ t.rest j d (omega (arith, h));
    done = λ j d h. below_more (λ i. P i (get_or xs i d) (get_or (set ys n y) i d)) n
        (λ i u. subst (P i (get_or xs i d)) (sym (get_or-set_other ys n i y d (λ e. omega (arith, u)))) (t.done i d u))
        (subst (P n (get_or xs n d)) (sym (get_or-set_same ys n y d lt))
        (subst (λ (z : X). P n z y) (is ∙ get_or_default ys n x d lt ∙ t.rest n d (omega arith)) here))
        j h;
  }

module _ {D C J : Type 0} where
  -- a worker took the seat that it is to serve from
  abbrev pub Took : TableId → Known → ℕ → Worker D C J → Worker D C J → Type 0
  Took book k i w w' = HasSeat book (worker_seat i k) w' × IsWith w w'

  -- a worker gave its seat back
  abbrev pub Gave : ℕ → Worker D C J → Worker D C J → Type 0
  Gave i w w' = IsWith w w'

-- one seat more was joined
pub joined_more : (k m m' : Known) (os : List Outcome) (o : Outcome) → JoinedAll k os m → Joined m o.known m' → JoinedAll k (os ++ o ∷ []) m'
joined_more k m m' [] o all one = (m', subst (λ (x : Known). Joined x o.known m') all one, refl)
joined_more k m m' (p ∷ os) o all one = (all.0, all.1, joined_more all.0 m m' os o all.2 one)

-- and its end counted
pub ended_more : (end : HostEnd) (os : List Outcome) (o : Outcome) → end_of_all end (os ++ o ∷ []) ≡ graver_end (end_of_all end os) (end_of_dgrams o.end o.send_failed)
ended_more end [] o = refl
ended_more end (p ∷ os) o = ended_more (graver_end end (end_of_dgrams p.end p.send_failed)) os o
