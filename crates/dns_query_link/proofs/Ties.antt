-- What a link without responses holds stays that of what came.
use Rattle.std.proofs.Common.{◌≡◌, ℕ, ◌+◌, ◌-◌, ◌^◌, false, List, [], ◌++◌, length, take, drop, min, refl, ap, sym, subst, ◌∙◌, arith, append_assoc, append-nil, length-append}
use Rattle.std.proofs.lemmas.Bool.{false≢true}
use Rattle.std.proofs.lemmas.List.{drop_at, take_at}
use Rattle.dns_framing.specs.Frames.{behind_frames}
use Rattle.dns_framing.proofs.FramesLemmas.{frames_none, goes, rest_none}
use Rattle.dns_io.specs.Causes.{Observed}
use Rattle.dns_io.specs.Traffic.{Traffic, LinkReadMoves}
use Rattle.dns_io.specs.declared.link.LinkRead.{LinkRead}
use Rattle.dns_io.specs.declared.link.LinkRead.TheVariants.{Got, Again, End, Failed}
use Rattle.dns_query_link.specs.QueryFrames.{Buffered, nothing_held, passed_on, with_piece}
use Rattle.dns_query_link.specs.QueryReads.{Reads, no_reads, Takes, Gives, came_since, given_since, IsTied, Ties, IsCounted, without_responses}
use Rattle.dns_query_link.proofs.Sifted.{none_passed, passed_later}

-- ---- the octets that came, by parts

-- octets came since; of the queries among them some octets were given, and the others wait
record Parts (before came since given : List ℕ) (h : Buffered) : Type 0 where
  pub came_is : came ≡ before ++ since
  pub kept : h.kept ≡ behind_frames since
  pub passed : passed_on since ≡ given ++ h.waiting

module _ (before came since given : List ℕ) (h : Buffered) (p : Parts before came since given h) where
  since_is : came_since before came ≡ since
  since_is = ap (drop (length before)) p.came_is ∙ drop_at before since (length before) refl

  given_is : given_since before came h.waiting ≡ given
  given_is =
      let passed : passed_on (came_since before came) ≡ given ++ h.waiting = ap passed_on since_is ∙ p.passed in
      let size : length (given ++ h.waiting) - length h.waiting ≡ length given = omega (arith, length-append given h.waiting) in
      ap (λ (l : List ℕ). take (length l - length h.waiting) l) passed ∙ (ap (λ (n : ℕ). take n (given ++ h.waiting)) size ∙ take_at given h.waiting (length given) refl)

  tied_by : IsTied before came h
  tied_by = record {
    since = p.came_is ∙ ap (λ (l : List ℕ). before ++ l) (sym since_is);
    kept = p.kept ∙ ap behind_frames (sym since_is);
    waiting = ap passed_on since_is ∙ (p.passed ∙ ap (λ (l : List ℕ). l ++ h.waiting) (sym given_is));
  }

parts_of : (before came : List ℕ) (h : Buffered) → IsTied before came h → Parts before came (came_since before came) (given_since before came h.waiting) h
parts_of before came h t = record { came_is = t.since; kept = t.kept; passed = t.waiting }

-- a piece more came
parts_more : (before came came' since given piece : List ℕ) (h : Buffered) → Parts before came since given h → came' ≡ came ++ piece → Parts before came' (since ++ piece) given (with_piece piece h)
parts_more before came came' since given piece h p more =
    let on : h.kept ++ piece ≡ behind_frames since ++ piece = ap (λ (l : List ℕ). l ++ piece) p.kept in
    let later : passed_on (h.kept ++ piece) ≡ passed_on (behind_frames since ++ piece) = ap passed_on on in
    record {
      came_is = more ∙ (ap (λ (l : List ℕ). l ++ piece) p.came_is ∙ append_assoc before since piece);
      kept = ap behind_frames on ∙ sym (goes since piece).left;
      passed = passed_later since piece ∙ (ap (λ (l : List ℕ). l ++ passed_on (behind_frames since ++ piece)) p.passed
          ∙ (append_assoc given h.waiting (passed_on (behind_frames since ++ piece)) ∙ ap (λ (l : List ℕ). given ++ (h.waiting ++ l)) (sym later)));
    }

-- some octets that waited were given
parts_given : (before came since given some : List ℕ) (h h' : Buffered) → Parts before came since given h → h.waiting ≡ some ++ h'.waiting → h'.kept ≡ h.kept → Parts before came since (given ++ some) h'
parts_given before came since given some h h' p w k = record {
  came_is = p.came_is;
  kept = k ∙ p.kept;
  passed = p.passed ∙ (ap (λ (l : List ℕ). given ++ l) w ∙ sym (append_assoc given some h'.waiting));
}

-- ---- what is held stays tied

tied_nothing : (came : List ℕ) (h : Buffered) → h ≡ nothing_held → IsTied came came h
tied_nothing came h none =
    let left : [] ≡ behind_frames [] = sym (rest_none [] refl) in
    let passed : passed_on [] ≡ [] = none_passed [] (frames_none [] refl) in
    let p : Parts came came [] [] nothing_held = record { came_is = sym (append-nil came); kept = left; passed = passed } in
    let is : Buffered → Type 0 = λ (x : Buffered). IsTied came came x in subst is (sym none) (tied_by came came [] [] nothing_held p)

pub tied_first : (so_far : Type 0) (t u : Traffic) (r : Reads) → u ≡ t → r ≡ no_reads → Ties so_far t.came u r
tied_first so_far t u r same none =
    let is : Traffic → Type 0 = λ (x : Traffic). Ties so_far t.came x r in
    subst is (sym same) (record { ties = λ now live. tied_nothing t.came r.held (ap (λ (x : Reads). x.held) none) })

module _ (so_far : Type 0) (before : List ℕ) (t : Traffic) where
  pub gives_ties : (result : LinkRead) (buf : List ℕ) (a b : Reads) → Gives result buf a b → Ties so_far before t a → Ties so_far before t b
  gives_ties (Got n) buf a b g tied = record {
    ties = λ now live.
        let p = parts_of before t.came a.held (tied.ties now (sym g.ended ∙ live)) in
        tied_by before t.came _ _ b.held (parts_given before t.came _ _ (take n buf) a.held b.held p g.waiting g.kept);
  }
  gives_ties Again buf a b g tied = record {
    ties = λ now live.
        let same : b.held ≡ a.held = ap (λ (r : Reads). r.held) g.2 in
        let is : Buffered → Type 0 = λ (h : Buffered). IsTied before t.came h in
        subst is (sym same) (tied.ties now g.0);
  }
  gives_ties End buf a b g tied = record { ties = λ now live. absurd (false≢true (sym live ∙ (ap (λ (r : Reads). r.ended) g.1 ∙ g.0))) }
  gives_ties Failed buf a b g tied = absurd g

-- the octets that a read of the link gave were taken
module _ (so_far now : Type 0) (before : List ℕ) (t u : Traffic) (n : ℕ) (buf : List ℕ) (moves : Observed now so_far (LinkReadMoves (Got n) buf t u)) (a b : Reads) (takes : Takes (take n buf) a b) where
  was_live : b.ended ≡ false → a.ended ≡ false
  was_live live = sym (ap (λ (r : Reads). r.ended) (takes live)) ∙ live

  takes_ties : Ties so_far before t a → Ties now before u b
  takes_ties tied = record {
    ties = λ is_now live.
        let m = moves.observed is_now in
        let same : b.held ≡ with_piece (take n buf) a.held = ap (λ (r : Reads). r.held) (takes live) in
        let p = parts_of before t.came a.held (tied.ties m.0 (was_live live)) in
        let is : Buffered → Type 0 = λ (h : Buffered). IsTied before u.came h in
        subst is (sym same) (tied_by before u.came _ _ _ (parts_more before t.came u.came _ _ (take n buf) a.held p (ap (λ (x : Traffic). x.came) m.1)));
  }

-- ---- what the link tells

abbrev made : Traffic → List ℕ → ℕ → Traffic
made t c k = record t { came = c; empty_reads = k }

-- some of what waits is given
module _ (so_far : Type 0) (before : List ℕ) (t : Traffic) where
  gives_moves : (result : LinkRead) (buf : List ℕ) (a b : Reads) → Gives result buf a b → Ties so_far before t a
      → Observed (so_far × IsCounted b) (so_far × IsCounted a) (LinkReadMoves result buf (without_responses before a t) (without_responses before b t))
  gives_moves (Got n) buf a b g tied = record {
    observed = λ now.
        let live : a.ended ≡ false = sym g.ended ∙ now.1.0 in
        let p = parts_of before t.came a.held (tied.ties now.0 live) in
        let after = parts_given before t.came _ _ (take n buf) a.held b.held p g.waiting g.kept in
        let came : before ++ given_since before t.came b.held.waiting ≡ before ++ given_since before t.came a.held.waiting ++ take n buf
        = ap (λ (l : List ℕ). before ++ l) (given_is before t.came _ _ b.held after) ∙ sym (append_assoc before (given_since before t.came a.held.waiting) (take n buf)) in
        let count : t.empty_reads + b.vain ≡ t.empty_reads + a.vain = ap (λ (k : ℕ). t.empty_reads + k) g.vain in (
          (now.0, (live, omega (arith, now.1.1, g.vain))),
          ap (λ (c : List ℕ). made t c (t.empty_reads + b.vain)) came ∙ ap (made t (before ++ given_since before t.came a.held.waiting ++ take n buf)) count,
        );
  }
  gives_moves Again buf a b g tied = record {
    observed = λ now.
        let vain : b.vain ≡ min (a.vain + 1) (2 ^ 64 - 1) = ap (λ (r : Reads). r.vain) g.2 in
        let more : b.vain ≡ a.vain + 1 = omega (arith, vain, now.1.1) in
        let same : b.held.waiting ≡ a.held.waiting = ap (λ (r : Reads). r.held.waiting) g.2 in
        let count : t.empty_reads + b.vain ≡ t.empty_reads + a.vain + 1 = omega (arith, more) in (
          (now.0, (g.0, omega (arith, now.1.1, more))),
          ap (λ (w : List ℕ). made t (before ++ given_since before t.came w) (t.empty_reads + b.vain)) same ∙ ap (made t (before ++ given_since before t.came a.held.waiting)) count,
        );
  }
  gives_moves End buf a b g tied = record { observed = λ now. absurd (false≢true (sym now.1.0 ∙ (ap (λ (r : Reads). r.ended) g.1 ∙ g.0))) }
  gives_moves Failed buf a b g tied = absurd g

-- octets came and are held: the link tells what it told
held_as_told : (before piece : List ℕ) (r : Reads) (t : Traffic) → IsTied before t.came r.held
    → without_responses before (record r { held = with_piece piece r.held }) (record t { came = t.came ++ piece }) ≡ without_responses before r t
held_as_told before piece r t tied =
    let p = parts_more before t.came (t.came ++ piece) _ _ piece r.held (parts_of before t.came r.held tied) refl in
    ap (λ (g : List ℕ). record t { came = before ++ g; empty_reads = t.empty_reads + r.vain }) (given_is before (t.came ++ piece) _ _ (with_piece piece r.held) p)

-- octets came, and some of what then waits is given
module _ (so_far now : Type 0) (before : List ℕ) (t u : Traffic) (n : ℕ) (came : List ℕ) (moves : Observed now so_far (LinkReadMoves (Got n) came t u)) (a b : Reads) (takes : Takes (take n came) a b) where
  takes_as_told : Ties so_far before t a → now → IsCounted b → (so_far × IsCounted a) × (without_responses before b u ≡ without_responses before a t)
  takes_as_told tied is_now counted =
      let m = moves.observed is_now in
      let live : a.ended ≡ false = was_live so_far now before t u n came moves a b takes counted.0 in
      let vain : b.vain ≡ a.vain = ap (λ (r : Reads). r.vain) (takes counted.0) in
      let at : Traffic → Reads → Type 0 = λ (x : Traffic) (r : Reads). without_responses before r x ≡ without_responses before a t in
      let first = held_as_told before (take n came) a t (tied.ties m.0 live) in
      let by_reads = subst (λ (r : Reads). at (record t { came = t.came ++ take n came }) r) (sym (takes counted.0)) first in
      ((m.0, (live, omega (arith, counted.1, vain))), subst (λ (x : Traffic). at x b) (sym m.1) by_reads)

pub taken_ties : (so_far now : Type 0) (before : List ℕ) (t u : Traffic) (n : ℕ) (came : List ℕ) (result : LinkRead) (buf : List ℕ) (a b d : Reads) → Ties so_far before t a
    → Observed now so_far (LinkReadMoves (Got n) came t u) → Takes (take n came) a b → Gives result buf b d → Ties now before u d
taken_ties so_far now before t u n came result buf a b d tied moves takes gives = gives_ties now before u result buf b d gives (takes_ties so_far now before t u n came moves a b takes tied)

pub taken_moves : (so_far now : Type 0) (before : List ℕ) (t u : Traffic) (n : ℕ) (came : List ℕ) (result : LinkRead) (buf : List ℕ) (a b d : Reads) → Ties so_far before t a
    → Observed now so_far (LinkReadMoves (Got n) came t u) → Takes (take n came) a b → Gives result buf b d
    → Observed (now × IsCounted d) (so_far × IsCounted a) (LinkReadMoves result buf (without_responses before a t) (without_responses before d u))
taken_moves so_far now before t u n came result buf a b d tied moves takes gives = record {
  observed = λ counted.
      let after = takes_ties so_far now before t u n came moves a b takes tied in
      let g = (gives_moves now before u result buf b d gives after).observed counted in
      let s = takes_as_told so_far now before t u n came moves a b takes tied g.0.0 g.0.1 in
      let is : Traffic → Type 0 = λ (x : Traffic). LinkReadMoves result buf x (without_responses before d u) in
      (s.0, subst is s.1 g.1);
}
