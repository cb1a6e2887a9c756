-- Works are started and joined, one after the other.
use Rattle.std.proofs.Common.{◌≡◌, ℕ, ◌+◌, List, [], ◌∷◌, ◌++◌, length, sym, ◌∙◌, ap, append-nil, append_assoc, arith}
use Rattle.std.proofs.lemmas.List.{length-append}
use Rattle.dns_witness.specs.Works.{Works, Began, AllJoined, one_started, one_joined}

more_started : (s s' t t' j j' : ℕ) → s' ≡ s + 1 → j' ≡ j → t' ≡ t + 1 → s ≡ t + j → s' ≡ t' + j'
more_started s s' t t' j j' p q r c = omega (arith, p, q, r, c)

more_joined : (s s' t t' j j' : ℕ) → s' ≡ s → j' ≡ j + 1 → t' + 1 ≡ t → s ≡ t + j → s' ≡ t' + j'
more_joined s s' t t' j j' p q r c = omega (arith, p, q, r, c)

more_of_both : (s s' t j j' : ℕ) → s' ≡ s + 1 → j' ≡ j + 1 → s ≡ t + j → s' ≡ t + j'
more_of_both s s' t j j' p q c = omega (arith, p, q, c)

none_left : (s t j : ℕ) → t ≡ 0 → s ≡ t + j → j ≡ s
none_left s t j p c = omega (arith, p, c)

no_more : (x y z : ℕ) → y ≡ x + 0 → z ≡ y + 0 → z ≡ x + 0
no_more x y z p q = omega (arith, p, q)

same_count : (x : ℕ) → x ≡ x + 0
same_count x = omega arith

module _ {G : Type 0} where
  started_of : (a b : Works G) → a ≡ b → a.started ≡ b.started
  started_of a b e = ap (λ (w : Works G). w.started) e

  joined_of : (a b : Works G) → a ≡ b → a.joined ≡ b.joined
  joined_of a b e = ap (λ (w : Works G). w.joined) e

  length_of : (g : G) (a b : Works G) → b ≡ one_joined g a → length b.joined ≡ length a.joined + 1
  length_of g a b e = ap length (joined_of b (one_joined g a) e) ∙ length-append a.joined (g ∷ [])

  pub began_same : (a : Works G) → Began 0 a a
  began_same a = record { more = []; started = same_count a.started; joined = sym (append-nil a.joined) }

  pub began_one : (a b : Works G) → b ≡ one_started a → Began 1 a b
  began_one a b e = record {
    more = [];
    started = started_of b (one_started a) e;
    joined = joined_of b (one_started a) e ∙ sym (append-nil a.joined);
  }

  pub began_joined : (g : G) (a b : Works G) → b ≡ one_joined g a → Began 0 a b
  began_joined g a b e = record {
    more = g ∷ [];
    started = started_of b (one_joined g a) e ∙ same_count a.started;
    joined = joined_of b (one_joined g a) e;
  }

  -- one was started, and joined at once
  pub began_both : (g : G) (a b c : Works G) → b ≡ one_started a → c ≡ one_joined g b → Began 1 a c
  began_both g a b c e f = record {
    more = g ∷ [];
    started = started_of c (one_joined g b) f ∙ started_of b (one_started a) e;
    joined = joined_of c (one_joined g b) f ∙ ap (λ (l : List G). l ++ g ∷ []) (joined_of b (one_started a) e);
  }

  pub began_then : (a b c : Works G) → Began 0 a b → Began 0 b c → Began 0 a c
  began_then a b c p q = record {
    more = p.more ++ q.more;
    started = no_more a.started b.started c.started p.started q.started;
    joined = q.joined ∙ ap (λ (l : List G). l ++ q.more) p.joined ∙ append_assoc a.joined p.more q.more;
  }

  pub all_joined : (a b : Works G) (t : ℕ) → Began 0 a b → b.started ≡ t + length b.joined → t ≡ 0 → AllJoined a b
  all_joined a b t p c none = record { began = p; as_many = none_left b.started t (length b.joined) none c }

  -- a thread more is kept, one less, or as many
  pub counted_one : (a b : Works G) (t t' : ℕ) → b ≡ one_started a → a.started ≡ t + length a.joined → t' ≡ t + 1
      → b.started ≡ t' + length b.joined
  counted_one a b t t' e c r =
      more_started a.started b.started t t' (length a.joined) (length b.joined) (started_of b (one_started a) e) (ap length (joined_of b (one_started a) e)) r c

  pub counted_joined : (g : G) (a b : Works G) (t t' : ℕ) → b ≡ one_joined g a → a.started ≡ t + length a.joined → t' + 1 ≡ t
      → b.started ≡ t' + length b.joined
  counted_joined g a b t t' e c r =
      more_joined a.started b.started t t' (length a.joined) (length b.joined) (started_of b (one_joined g a) e) (length_of g a b e) r c

  pub counted_both : (g : G) (a b d : Works G) (t : ℕ) → b ≡ one_started a → d ≡ one_joined g b → a.started ≡ t + length a.joined
      → d.started ≡ t + length d.joined
  counted_both g a b d t e f c =
      more_of_both a.started d.started t (length a.joined) (length d.joined)
      (started_of d (one_joined g b) f ∙ started_of b (one_started a) e)
      (length_of g b d f ∙ ap (λ (n : ℕ). n + 1) (ap length (joined_of b (one_started a) e))) c
