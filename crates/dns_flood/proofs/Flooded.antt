-- One event more of a flood, and one event's outputs more.
use Rattle.std.proofs.Common.{◌≡◌, ℕ, zero, suc, ◌+◌, ◌-◌, ◌^◌, ◌≤◌, min, List, [], ◌∷◌, ◌++◌, length, Bool, cond, refl, ap, sym, ◌∙◌, add-one, arith, length-append}
use Rattle.std.proofs.lemmas.List.Sums.{sum_by-append}
use Rattle.std.specs.Prelude.{count_by}
use Rattle.dns_events.specs.declared.event.Event.{Event}
use Rattle.dns_events.specs.declared.event.Output.{Output}
use Rattle.dns_core.specs.Trails.{is_datagram_sent, is_frame}
use Rattle.dns_flood.specs.Counts.{IsAtMost, closes, output_counts, saturated_sum, sum_of, turns_away}
use Rattle.dns_flood.specs.Flood.{drawn, flood_event, flood_events, next_number, number_at}
use Rattle.dns_flood.specs.declared.counts.Counts.{Counts}

pub number_more : (seed n : ℕ) → number_at seed (n + 1) ≡ next_number (number_at seed n)
number_more seed n = rw add-one refl

pub events_more : (seed n x : ℕ) (e : Event) → x ≡ number_at seed (n + 1) → e ≡ flood_event (n + 1) (drawn x) → flood_events seed (n + 1) ≡ flood_events seed n ++ e ∷ []
events_more seed n x e i h =
    let made : e ≡ flood_event (suc n) (drawn (number_at seed (suc n))) = rw add-one at (h ∙ ap (λ y. flood_event (n + 1) (drawn y)) i) in
    rw add-one (ap (λ y. flood_events seed n ++ y ∷ []) (sym made))

pub length-flood_events : (seed n : ℕ) → length (flood_events seed n) ≡ n
length-flood_events seed zero = refl
length-flood_events seed (suc n) =
    let e : Event = flood_event (suc n) (drawn (number_at seed (suc n))) in
    length-append (flood_events seed n) (e ∷ []) ∙ ap (λ k. k + 1) (length-flood_events seed n) ∙ add-one n

count_by_more : (p : Output → Bool) (a b : List Output) → count_by p (a ++ b) ≡ count_by p a + count_by p b
count_by_more p a b = sum_by-append (λ o. cond (p o) 1 0) a b

pub counts_more : (a b : List Output) → output_counts (a ++ b) ≡ sum_of (output_counts a) (output_counts b)
unfolding output_counts
counts_more a b = rw (count_by_more is_datagram_sent a b, count_by_more is_frame a b, count_by_more closes a b, count_by_more turns_away a b) refl

-- a sum is exact if it is far below the last number of 128 bits
room_left : (x y : ℕ) → y ≡ min x (2 ^ 128 - 1) → y ≤ 2 ^ 127 + 2 ^ 64 → min x (2 ^ 128 - 1) ≡ x
room_left x y e h = omega (arith, e, h)

abbrev four_counts : ℕ → ℕ → ℕ → ℕ → Counts
four_counts a b c d = record { datagrams = a; frames = b; closed = c; turned_away = d }

same_counts : {a b c d a' b' c' d' : ℕ} → a ≡ a' → b ≡ b' → c ≡ c' → d ≡ d' → four_counts a b c d ≡ four_counts a' b' c' d'
same_counts e f g h = rw (e, f, g, h) refl

pub exact_sum : (a b new : Counts) → new ≡ saturated_sum a b → IsAtMost (2 ^ 127 + 2 ^ 64) new → new ≡ sum_of a b
exact_sum a b new e few =
    e
    ∙ same_counts
    (room_left (a.datagrams + b.datagrams) new.datagrams (ap (λ (c : Counts). c.datagrams) e) few.datagrams)
    (room_left (a.frames + b.frames) new.frames (ap (λ (c : Counts). c.frames) e) few.frames)
    (room_left (a.closed + b.closed) new.closed (ap (λ (c : Counts). c.closed) e) few.closed)
    (room_left (a.turned_away + b.turned_away) new.turned_away (ap (λ (c : Counts). c.turned_away) e) few.turned_away)

pub still_few : (most more : ℕ) (c : Counts) → most ≤ more → IsAtMost most c → IsAtMost more c
still_few most more c le few = record {
  datagrams = let h = few.datagrams in omega arith;
  frames = let h = few.frames in omega arith;
  closed = let h = few.closed in omega arith;
  turned_away = let h = few.turned_away in omega arith;
}
