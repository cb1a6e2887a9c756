-- Names, histories and finite maps.
use Rattle.std.proofs.Common.{◌≡◌, ◌≢◌, ◌⊎◌, Bool, true, false, if◌then◌else◌, List, [], ◌∷◌, ◌++◌, refl, sym, ◌∙◌, ap, inl, inr, ⊎_elim, true≢false, append_assoc, append-nil}
use Rattle.dns_events.specs.declared.look.Look.{Look as State}
use Rattle.dns_admission.specs.declared.call.Call.{Call}
use Rattle.dns_admission.specs.declared.call.Reply.{Reply}
use Rattle.dns_book.specs.declared.history.Entry.{Entry}
use Rattle.dns_book.specs.declared.history.Share.{Share}
use Rattle.dns_admission.specs.Machine.{state_after, reply_of}
use Rattle.dns_book.specs.History.{SeatName, same, entry, states_after, IsLegal, calls_by, entries_in, Has, with_entry, Begins, but_last}

pub same_refl : (n : SeatName) → same n n ≡ true
same_refl [] = refl
same_refl (true ∷ xs) = same_refl xs
same_refl (false ∷ xs) = same_refl xs

pub same_eq : (a b : SeatName) → same a b ≡ true → a ≡ b
same_eq [] [] h = refl
same_eq [] (y ∷ ys) h = cc
same_eq (x ∷ xs) [] h = cc
same_eq (true ∷ xs) (true ∷ ys) h = ap (λ (l : SeatName). true ∷ l) (same_eq xs ys h)
same_eq (false ∷ xs) (false ∷ ys) h = ap (λ (l : SeatName). false ∷ l) (same_eq xs ys h)
same_eq (true ∷ xs) (false ∷ ys) h = cc
same_eq (false ∷ xs) (true ∷ ys) h = cc

pub same_cases : (a b : SeatName) → ((a ≡ b) × (same a b ≡ true)) ⊎ ((a ≢ b) × (same a b ≡ false))
same_cases a b = go (same a b) refl
  where
    go : (v : Bool) → same a b ≡ v → ((a ≡ b) × (same a b ≡ true)) ⊎ ((a ≢ b) × (same a b ≡ false))
    go true e = inl (same_eq a b e, e)
    go false e = inr ((λ h. true≢false (sym (same_refl a) ∙ (ap (λ (x : SeatName). same a x) h ∙ e))), e)

picked : (b : Bool) (e : Entry) (u v w : List Entry) → u ≡ v ++ w → (if b then e ∷ u else u) ≡ (if b then e ∷ v else v) ++ w
picked true e u v w h = ap (λ (l : List Entry). e ∷ l) h
picked false e u v w h = h

pub calls_by-append : (n : SeatName) (xs ys : List Entry) → calls_by n (xs ++ ys) ≡ calls_by n xs ++ calls_by n ys
calls_by-append n [] ys = refl
calls_by-append n (x ∷ xs) ys = picked (same n x.by) x (calls_by n (xs ++ ys)) (calls_by n xs) (calls_by n ys) (calls_by-append n xs ys)

pub calls_by-own : (n : SeatName) (c : Call) (r : Reply) (xs : List Entry) → calls_by n (xs ++ entry n c r ∷ []) ≡ calls_by n xs ++ entry n c r ∷ []
calls_by-own n c r xs =
    calls_by-append n xs (entry n c r ∷ []) ∙ ap (λ (b : Bool). calls_by n xs ++ (if b then entry n c r ∷ [] else [])) (same_refl n)

different : (k n : SeatName) → k ≢ n → same k n ≡ false
different k n ne = ⊎_elim (λ (t : (k ≡ n) × (same k n ≡ true)). absurd (ne t.0)) (λ (t : (k ≢ n) × (same k n ≡ false)). t.1) (same_cases k n)

pub calls_by-other : (k n : SeatName) (c : Call) (r : Reply) (xs : List Entry) → k ≢ n → calls_by k (xs ++ entry n c r ∷ []) ≡ calls_by k xs
calls_by-other k n c r xs ne =
    calls_by-append k xs (entry n c r ∷ [])
    ∙ (ap (λ (b : Bool). calls_by k xs ++ (if b then entry n c r ∷ [] else [])) (different k n ne) ∙ append-nil (calls_by k xs))

pub states_after-append : (s : State) (xs : List Entry) (e : Entry) → states_after s (xs ++ e ∷ []) ≡ state_after (states_after s xs) e.call
states_after-append s [] e = refl
states_after-append s (x ∷ xs) e = states_after-append (state_after s x.call) xs e

pub legal-append : (s : State) (xs : List Entry) (e : Entry) → IsLegal s xs → e.reply ≡ reply_of (states_after s xs) e.call → IsLegal s (xs ++ e ∷ [])
legal-append s [] e l r = (r, tt)
legal-append s (x ∷ xs) e l r = (l.0, legal-append (state_after s x.call) xs e l.1 r)

pub begins_more : (xs ys zs : List Entry) → Begins xs ys → Begins xs (ys ++ zs)
begins_more xs ys zs b = (b.0 ++ zs, ap (λ (l : List Entry). l ++ zs) b.1 ∙ append_assoc xs b.0 zs)

pub begins_whole : (xs : List Entry) → Begins xs xs
begins_whole xs = ([], sym (append-nil xs))

pub begins_none : (xs : List Entry) → Begins [] xs
begins_none xs = (xs, refl)

pub entries_in-with_same : (n : SeatName) (e : Entry) (m : List Share) → entries_in n (with_entry n e m) ≡ entries_in n m ++ e ∷ []
entries_in-with_same n e [] = ap (λ (b : Bool). if b then e ∷ [] else []) (same_refl n)
entries_in-with_same n e (s ∷ ss) = ⊎_elim
    (λ (t : (n ≡ s.name) × (same n s.name ≡ true)). rw t.1 (ap (λ (b : Bool). if b then s.calls ++ e ∷ [] else entries_in n ss) t.1))
    (λ (t : (n ≢ s.name) × (same n s.name ≡ false)). rw t.1 (ap (λ (b : Bool). if b then s.calls else entries_in n (with_entry n e ss)) t.1 ∙ entries_in-with_same n e ss))
    (same_cases n s.name)

pub entries_in-with_other : (k n : SeatName) (e : Entry) (m : List Share) → k ≢ n → entries_in k (with_entry n e m) ≡ entries_in k m
entries_in-with_other k n e [] ne = ap (λ (b : Bool). if b then e ∷ [] else []) (different k n ne)
entries_in-with_other k n e (s ∷ ss) ne = ⊎_elim
    (λ (t : (n ≡ s.name) × (same n s.name ≡ true)). let d : same k s.name ≡ false = different k s.name (λ h. ne (h ∙ sym t.0)) in rw (t.1, d) refl)
    (λ (t : (n ≢ s.name) × (same n s.name ≡ false)). rw t.1 (ap (λ (l : List Entry). if same k s.name then s.calls else l) (entries_in-with_other k n e ss ne)))
    (same_cases n s.name)

pub has-with : (k n : SeatName) (e : Entry) (m : List Share) → Has k (with_entry n e m) → (k ≡ n) ⊎ Has k m
has-with k n e [] h = ⊎_elim (λ (t : k ≡ n). inl t) (λ f. absurd f) h
has-with k n e (s ∷ ss) h = ⊎_elim
    (λ (t : (n ≡ s.name) × (same n s.name ≡ true)). inr (rw t.1 at h))
    (λ (t : (n ≢ s.name) × (same n s.name ≡ false)). let g : (k ≡ s.name) ⊎ Has k (with_entry n e ss) = rw t.1 at h in ⊎_elim (λ (a : k ≡ s.name). inr (inl a)) (λ r. ⊎_elim (λ (a : k ≡ n). inl a) (λ b. inr (inr b)) (has-with k n e ss r)) g)
    (same_cases n s.name)

pub with-has : (k n : SeatName) (e : Entry) (m : List Share) → Has k m → Has k (with_entry n e m)
with-has k n e [] h = absurd h
with-has k n e (s ∷ ss) h = ⊎_elim
    (λ (t : (n ≡ s.name) × (same n s.name ≡ true)). rw t.1 h)
    (λ (t : (n ≢ s.name) × (same n s.name ≡ false)). rw t.1 (⊎_elim (λ (a : k ≡ s.name). inl a) (λ r. inr (with-has k n e ss r)) h))
    (same_cases n s.name)

pub has-here : (n : SeatName) (e : Entry) (m : List Share) → Has n (with_entry n e m)
has-here n e [] = inl refl
has-here n e (s ∷ ss) = ⊎_elim
    (λ (t : (n ≡ s.name) × (same n s.name ≡ true)). rw t.1 (inl t.0))
    (λ (t : (n ≢ s.name) × (same n s.name ≡ false)). rw t.1 (inr (has-here n e ss)))
    (same_cases n s.name)

-- what a map has nothing under has no entries in it
pub has_cases : (n : SeatName) (m : List Share) → Has n m ⊎ ((¬ Has n m) × (entries_in n m ≡ []))
has_cases n [] = inr ((λ f. f), refl)
has_cases n (s ∷ ss) = ⊎_elim
    (λ (t : (n ≡ s.name) × (same n s.name ≡ true)). inl (inl t.0))
    (λ (t : (n ≢ s.name) × (same n s.name ≡ false)).
    ⊎_elim (λ (h : Has n ss). inl (inr h)) (λ (h : (¬ Has n ss) × (entries_in n ss ≡ [])). inr ((λ f. ⊎_elim (λ (a : n ≡ s.name). t.0 a) (λ (b : Has n ss). h.0 b) f), ap (λ (b : Bool). if b then s.calls else entries_in n ss) t.1 ∙ h.1)) (has_cases n ss))
    (same_cases n s.name)

pub but_last-snoc : (xs : List Entry) (e : Entry) → but_last (xs ++ e ∷ []) ≡ xs
but_last-snoc [] e = refl
but_last-snoc (x ∷ []) e = refl
but_last-snoc (x ∷ y ∷ ys) e = ap (λ (l : List Entry). x ∷ l) (but_last-snoc (y ∷ ys) e)
