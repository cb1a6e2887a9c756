-- By how much a piece and a turn make a queue longer: within what its budget leaves in the window of that moment.
use Rattle.dns_session.specs.Serving.{Serving}
use Rattle.std.proofs.Common.{◌≡◌, ℕ, ◌+◌, ◌-◌, ◌/◌, ◌≤◌, List, [], ◌∷◌, ◌++◌, length, length-append, Bool, true, false, refl, ap, sym, ◌∙◌, arith, ltb-true}
use Rattle.std.specs.Prelude.{Option, Some, None, IsSomeAnd, nat_lt, min, ◌==◌, if◌then◌else◌, not, ◌||◌}
use Rattle.std.proofs.lemmas.Bool.{eq-eqb, and_parts}
use Rattle.dns_service.specs.Config.{Connection, IsBudget}
use Rattle.dns_events.specs.declared.event.Event.{Event}
use Rattle.dns_events.specs.declared.event.EventKind.{EventKind}
use Rattle.dns_events.specs.declared.event.EventKind.TheVariants.{Reconfigure}
use Rattle.dns_events.specs.declared.event.Why.{Why}
use Rattle.dns_session.specs.Budget.{allows, is_left, is_mark, most_spent}
use Rattle.dns_session.specs.Slate.{Slate, Open}
use Rattle.dns_session.specs.Requests.{unpolled, request_of_frame}
use Rattle.dns_session.specs.Connections.{close, wind_up, released, written, flushed, append_frame, room, spending}
use Rattle.dns_session.specs.Turns.{polled, retimed, with_request}
use Rattle.dns_core.specs.Budgets.{AllowsAtMost}
use Rattle.dns_core.specs.Trails.{is_open}
use Rattle.dns_core.specs.Out.{is_unused}
use Rattle.dns_session.proofs.Walks.{Walks}

-- what is left in window n of the b replies that may be queued in it
abbrev pub left_of : ℕ → ℕ → Option ℕ → ℕ → ℕ
left_of b n mark spent = if is_mark mark n then b - spent else b

abbrev pub left_in : ℕ → ℕ → Slate → ℕ
left_in b n s = left_of b n s.mark s.spent

-- an event that replaces the configurations
abbrev pub is_reconfigure : EventKind → Bool
is_reconfigure (Reconfigure dgram stream) = true
is_reconfigure _ = false

-- by how many replies a queue is longer
abbrev pub growth : Slate → Slate → ℕ
growth s t = length t.queue - length s.queue

left_case : (x : Bool) (b spent : ℕ) (allowed : Option ℕ) → IsBudget (Some b) → IsSomeAnd allowed (λ n. n ≤ b) → (not x || is_left allowed spent) ≡ true
    → 1 + (b - (if x then min (spent + 1) most_spent else 1)) ≤ (if x then b - spent else b)
left_case true b spent None fits most can = absurd most
left_case true b spent (Some allowed) fits most can = omega (arith, fits.1, most, ltb-true spent allowed can)
left_case false b spent allowed fits most can = omega (arith, fits.0)

-- a reply that is queued takes one of those left
left_after : (b at v w spent : ℕ) (mark allowed : Option ℕ) → v ≡ w → IsBudget (Some b) → IsSomeAnd allowed (λ n. n ≤ b) → (not (is_mark mark (at / v)) || is_left allowed spent) ≡ true
    → 1 + left_of b (at / w) (Some (at / v)) (if is_mark mark (at / v) then min (spent + 1) most_spent else 1) ≤ left_of b (at / w) mark spent
left_after b at v w spent mark allowed e fits most can =
    let can' : (not (is_mark mark (at / w)) || is_left allowed spent) ≡ true = rw (sym e) can in
    let now : (at / w == at / w) ≡ true = eq-eqb (at / w) (at / w) refl in
    rw (e, now) (left_case (is_mark mark (at / w)) b spent allowed fits most can')

pub carries : (b w : ℕ) (c d : Connection) → d.response_budget ≡ c.response_budget → d.budget_window ≡ c.budget_window → AllowsAtMost b w c → AllowsAtMost b w d
carries b w c d p q a = rw (p, q) a

-- if the budget is at most b: it and the configurations stay, and what isn't open doesn't open
pub record Grows (b at : ℕ) (s t : Slate) : Type 0 where
  pub budget : t.connection.response_budget ≡ s.connection.response_budget
  pub window : t.connection.budget_window ≡ s.connection.budget_window
  pub conf : t.conf ≡ s.conf
  pub opens : is_open t.phase ≡ true → is_open s.phase ≡ true
  pub gains : (w : ℕ) → (is_open s.phase ≡ true → AllowsAtMost b w s.connection) → growth s t + left_in b (at / w) t ≤ left_in b (at / w) s

-- a queue that grows no longer
pub rested : (b n : ℕ) (s t : Slate) → length t.queue ≤ length s.queue → t.mark ≡ s.mark → t.spent ≡ s.spent → growth s t + left_in b n t ≤ left_in b n s
rested b n s t q m c = rw (m, c) (omega (arith, q))

then_on : (b at : ℕ) (s t u : Slate) → t.phase ≡ s.phase → Grows b at s t → Grows b at t u → Grows b at s u
then_on b at s t u p g h = record {
  budget = h.budget ∙ g.budget;
  window = h.window ∙ g.window;
  conf = h.conf ∙ g.conf;
  opens = λ x. g.opens (h.opens x);
  gains = λ w a. let k = h.gains w (λ o. carries b w s.connection t.connection g.budget g.window (a (ap is_open (sym p) ∙ o))) in omega (arith, g.gains w a, k);
}

-- nothing of it changes but the queue, which is no longer
shorter : (b at : ℕ) (s t : Slate) → t.connection.response_budget ≡ s.connection.response_budget → t.connection.budget_window ≡ s.connection.budget_window → t.conf ≡ s.conf → t.phase ≡ s.phase → length t.queue ≤ length s.queue → t.mark ≡ s.mark → t.spent ≡ s.spent → Grows b at s t
shorter b at s t p q c f l m n = record { budget = p; window = q; conf = c; opens = λ h. rw (sym f) h; gains = λ w a. rested b (at / w) s t l m n }

-- one that isn't open any more
shuts : (b at : ℕ) (s t : Slate) → t.connection ≡ s.connection → t.conf ≡ s.conf → is_open t.phase ≡ false → length t.queue ≤ length s.queue → t.mark ≡ s.mark → t.spent ≡ s.spent → Grows b at s t
shuts b at s t p c f l m n = record { budget = ap (λ (x : Connection). x.response_budget) p; window = ap (λ (x : Connection). x.budget_window) p; conf = c; opens = λ h. cc; gains = λ w a. rested b (at / w) s t l m n }

-- the front goes
front_goes : (m : List ℕ) (ms q : List (List ℕ)) → q ≡ m ∷ ms → length ms ≤ length q
front_goes m ms q is = rw is (omega arith)

written_on : (b at : ℕ) (m : List ℕ) (ms : List (List ℕ)) (s : Slate) → s.queue ≡ m ∷ ms → Grows b at s (written at m ms s).0
written_on b at m [] s is = shorter b at s (written at m [] s).0 refl refl refl refl (omega arith) refl refl
written_on b at m (n ∷ ms) s is = shorter b at s (written at m (n ∷ ms) s).0 refl refl refl refl (front_goes m (n ∷ ms) s.queue is) refl refl

flushed_on : (b at : ℕ) (why : Why) (m : List ℕ) (ms : List (List ℕ)) (s : Slate) → s.queue ≡ m ∷ ms → Grows b at s (flushed why m ms s).0
flushed_on b at why m [] s is = shuts b at s (flushed why m [] s).0 refl refl refl (omega arith) refl refl
flushed_on b at why m (n ∷ ms) s is = shorter b at s (flushed why m (n ∷ ms) s).0 refl refl refl refl (front_goes m (n ∷ ms) s.queue is) refl refl

module _ (b at : ℕ) (fits : IsBudget (Some b)) where
  -- a reply more, if there is room
  appends : (m : List ℕ) (s : Slate) → s.phase ≡ Open → room at s ≡ true → Grows b at s (append_frame at m s)
  appends m s p free =
      let can = (and_parts (nat_lt (length s.queue) s.bound) (allows at (spending s)) free).1 in
      let one : length (s.queue ++ m ∷ []) - length s.queue ≡ 1 = omega (arith, length-append s.queue (m ∷ [])) in
      record {
        budget = refl;
        window = refl;
        conf = refl;
        opens = λ h. h;
        gains = λ w most. let a = most (ap is_open p) in rw one (left_after b at s.connection.budget_window w s.spent s.mark s.connection.response_budget a.1 fits a.0 can);
      }

-- at an event by which no client begins and that sets no configurations
pub grows : (answers : Serving) (b : ℕ) (e : Event) → IsBudget (Some b) → is_reconfigure e.kind ≡ false → Walks answers e (λ s t. is_unused s.phase ≡ false → Grows b e.at s t.0)
grows answers b e fits n = record {
  stays = λ s u. shorter b e.at s s refl refl refl refl (omega arith) refl refl;
  goes = λ s t effect p g h u. then_on b e.at s t effect.0 p (g u) (h (ap is_unused p ∙ u));
  exchanges = λ addr o s is p over u. let x = ap is_unused p in cc;
  opens = λ addr s is p over u. let x = ap is_unused p in cc;
  polls = λ k r s is p at d u. shorter b e.at s (with_request k (polled (answers.answer r.request r.polls) r) s) refl refl refl refl (omega arith) refl refl;
  receives = λ o s p u. shorter b e.at s (record s { received = s.received ++ o }) refl refl refl refl (omega arith) refl refl;
  counts = λ s p u. shorter b e.at s (record s { taken = s.taken + 1; reset_at = e.at }) refl refl refl refl (omega arith) refl refl;
  asks = λ f s p u. shorter b e.at s (record s { requests = s.requests ++ unpolled (request_of_frame s.connection.idle_timeout s.addr e.at e.secs f) ∷ [] }) refl refl refl refl (omega arith) refl refl;
  retimes = λ a s p u. shorter b e.at s (retimed a s) refl refl refl refl (omega arith) refl refl;
  sets = λ k r s p u. shorter b e.at s (with_request k r s) refl refl refl refl (omega arith) refl refl;
  queues = λ m s p free u. appends b e.at fits m s p free;
  writes = λ m ms s p is u. written_on b e.at m ms s is;
  flushes = λ why m ms s p is u. flushed_on b e.at why m ms s is;
  closes = λ why s c u. shuts b e.at s (close why s).0 refl refl refl (omega arith) refl refl;
  winds = λ why m ms s p is u. shuts b e.at s (wind_up why (m ∷ ms) s).0 refl refl refl (omega arith) refl refl;
  reconfigures = λ dgram stream s is p u. let x = ap is_reconfigure is in cc;
  releases = λ s is p u. shorter b e.at s (released s) refl refl refl refl (omega arith) refl refl;
}
