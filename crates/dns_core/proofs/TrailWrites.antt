-- The writes of a connection keep its trail: the first of what waits goes, and if the connection is closed, all that waits is
-- forgotten.
use Rattle.std.proofs.Common.{◌≡◌, ℕ, List, [], ◌∷◌, ◌++◌, length, replicate, Option, refl, ap, sym, ◌∙◌, subst, append_assoc}
use Rattle.std.proofs.Math.Seq.{take_at}
use Rattle.dns_events.specs.declared.event.Output.{Output}
use Rattle.dns_events.specs.declared.event.Output.TheVariants.{Frame}
use Rattle.dns_events.specs.declared.event.Why.{Why}
use Rattle.dns_session.specs.Connections.{close, flushed, written}
use Rattle.dns_session.specs.Serving.{Serving}
use Rattle.dns_session.specs.Slate.{Slate, Effect}
use Rattle.dns_core.specs.Trails.{Origin, Trail, AreFrom, AreQueued, IsRising, polls_of}
use Rattle.dns_core.proofs.Origins.{from_append, from_one, queued_length}
use Rattle.dns_core.proofs.Trailing.{Has, Keeps, Kept, ends, front_on, has_on, trail, trail_by}

module _ (answers : Serving) where
  -- the first of what waits, for the frame that is written, and the others
  pub record Front (m : List ℕ) (ms : List (List ℕ)) (s : Slate) (t : Trail) (os : List Output) : Type 0 where
    first : Option Origin
    others : List (Option Origin)
    waiting : t.waiting ≡ first ∷ others
    went : AreFrom answers (t.went ++ first ∷ []) (os ++ Frame s.client m ∷ [])
    waits : AreQueued answers others ms
    order : (k : ℕ) → IsRising (polls_of k ((t.went ++ first ∷ []) ++ others))
    has : Has answers s.phase s.requests (trail t.went (first ∷ others) t.dropped)

  front_case : (m : List ℕ) (ms : List (List ℕ)) (s : Slate) (t : Trail) (os : List Output) (ws : List (Option Origin)) → t.waiting ≡ ws → AreQueued answers ws (m ∷ ms) → Kept answers s t os → Front m ms s t os
  front_case m ms s t os [] is w h = absurd w
  front_case m ms s t os (x ∷ xs) is w h = record {
    first = x;
    others = xs;
    waiting = is;
    went = from_append answers t.went (x ∷ []) os (Frame s.client m ∷ []) h.went (from_one answers x (Frame s.client m) (w.0 s.client));
    waits = w.1;
    order = λ k. subst (λ (ys : List (Option Origin)). IsRising (polls_of k ys)) (ap (λ (ys : List (Option Origin)). t.went ++ ys) is ∙ sym (append_assoc t.went (x ∷ []) xs)) (h.order k);
    has = subst (λ (ys : List (Option Origin)). Has answers s.phase s.requests (trail t.went ys t.dropped)) is h.has;
  }

  pub front_of : (m : List ℕ) (ms : List (List ℕ)) (s : Slate) (t : Trail) (os : List Output) → s.queue ≡ m ∷ ms → Kept answers s t os → Front m ms s t os
  front_of m ms s t os q h = front_case m ms s t os t.waiting refl (subst (AreQueued answers t.waiting) q h.waiting) h

  -- it goes, and the others wait
  gone : (m : List ℕ) (ms : List (List ℕ)) (s u : Slate) (t : Trail) (os : List Output) (x : Option Origin) (ds : List Origin) → u.queue ≡ ms → (f : Front m ms s t os)
      → Has answers u.phase u.requests (trail (t.went ++ f.first ∷ []) f.others (t.dropped ++ ds)) → Keeps answers (u, Frame s.client m ∷ []) x ds t os
  gone m ms s u t os x ds q f has =
      let l : length f.others ≡ length u.queue = queued_length answers f.others ms f.waits ∙ ap length (sym q) in
      let effect : Effect = (u, Frame s.client m ∷ []) in
      let kept : Kept answers u (trail (t.went ++ f.first ∷ []) f.others (t.dropped ++ ds)) (os ++ Frame s.client m ∷ []) = record {
        went = f.went;
        waiting = subst (AreQueued answers f.others) (sym q) f.waits;
        order = f.order;
        has = has;
      } in
      subst (λ (ws : List (Option Origin)). Kept answers u (trail_by effect x ds (trail t.went ws t.dropped)) (os ++ Frame s.client m ∷ [])) (sym f.waiting)
      (subst (λ (ws : List (Option Origin)). Kept answers u (trail (t.went ++ f.first ∷ []) ws (t.dropped ++ ds)) (os ++ Frame s.client m ∷ [])) (sym (take_at f.others (replicate (length u.queue) x) (length u.queue) l)) kept)

  has_gone : (m : List ℕ) (ms : List (List ℕ)) (s : Slate) (t : Trail) (os : List Output) (ds : List Origin) (f : Front m ms s t os) → Has answers s.phase s.requests (trail (t.went ++ f.first ∷ []) f.others (t.dropped ++ ds))
  has_gone m ms s t os ds f =
      let before = trail t.went (f.first ∷ f.others) t.dropped in
      let behind = trail (t.went ++ f.first ∷ []) f.others (t.dropped ++ ds) in
      has_on answers s.phase s.requests before behind (λ (e : f.first ∷ f.others ≡ []). cc) (λ k. ap (polls_of k) (append_assoc t.went (f.first ∷ []) f.others)) (front_on t.went f.others f.first t.dropped ds) f.has

  -- the last goes, and the connection is closed
  last_gone : (why : Why) (m : List ℕ) (ms : List (List ℕ)) (s : Slate) (t : Trail) (os : List Output) (x : Option Origin) (ds : List Origin) → Front m ms s t os → Keeps answers ((close why s).0, Frame s.client m ∷ (close why s).1) x ds t os
  last_gone why m ms s t os x ds f =
      let effect : Effect = ((close why s).0, Frame s.client m ∷ (close why s).1) in
      subst (λ (ws : List (Option Origin)). Kept answers (close why s).0 (trail_by effect x ds (trail t.went ws t.dropped)) (os ++ Frame s.client m ∷ [])) (sym f.waiting)
      (ends answers why s (t.went ++ f.first ∷ []) f.others (t.dropped ++ ds) (os ++ Frame s.client m ∷ []) f.went f.order)

  pub written_keeps : (at : ℕ) (m : List ℕ) (ms : List (List ℕ)) (s : Slate) (t : Trail) (os : List Output) (x : Option Origin) (ds : List Origin) → Front m ms s t os → Keeps answers (written at m ms s) x ds t os
  written_keeps at m [] s t os x ds f = gone m [] s (record s { queue = []; reset_at = at }) t os x ds refl f (has_gone m [] s t os ds f)
  written_keeps at m (n ∷ ms) s t os x ds f = gone m (n ∷ ms) s (record s { queue = n ∷ ms }) t os x ds refl f (has_gone m (n ∷ ms) s t os ds f)

  pub flushed_keeps : (why : Why) (m : List ℕ) (ms : List (List ℕ)) (s : Slate) (t : Trail) (os : List Output) (x : Option Origin) (ds : List Origin) → Front m ms s t os → Keeps answers (flushed why m ms s) x ds t os
  flushed_keeps why m [] s t os x ds f = last_gone why m [] s t os x ds f
  flushed_keeps why m (n ∷ ms) s t os x ds f = gone m (n ∷ ms) s (record s { queue = n ∷ ms }) t os x ds refl f (has_gone m (n ∷ ms) s t os ds f)
