use Rattle.std.proofs.Common.{◌≡◌, ◌+◌, ◌*◌, ◌^◌, ◌<◌, ap, ◌∙◌, refl, [], ◌∷◌, ◌++◌, length, arith}
use Rattle.dns_core.specs.Machine.{last_version}
use Rattle.dns_core.specs.Out.{out}
use Rattle.dns_flood.specs.Counts.{output_counts}
use Rattle.dns_flood.specs.Flood.{drawn, flood_event, flood_events, next_number, number_at}
use Rattle.dns_flood.proofs.Flooded.{events_more, length-flood_events, number_more, still_few}
use Rattle.dns_flood.proofs.flood.count_each.Goals as goal

pub loop-made-init : goal.loop-made-init
unfolding out output_counts
loop-made-init g c = record {
  number = refl;
  counted = λ s h. (h, c.new-counts.ensures);
  few = rw c.new-counts.ensures (record { datagrams = omega arith; frames = omega arith; closed = omega arith; turned_away = omega arith });
}

pub count_next-requires-clause-room : goal.count_next-requires-clause-room
count_next-requires-clause-room g c =
    let n = c.loop-made.made in
    let r = c.ranges.count in
    still_few (n * 2 ^ 64) (2 ^ 127) c.loop-made.counts (omega arith) c.loop-made.invariant.few

pub loop-made-preserved : goal.loop-made-preserved
loop-made-preserved g c =
    let n = c.loop-made.made in
    let seed = c.args.seed in
    let inv = c.loop-made.invariant in
    let q = flood_events seed n in
    let x = c.count_next.new.number in
    let e = flood_event (n + 1) (drawn x) in
    let number : x ≡ number_at seed (n + 1) = rw (number_more seed n) (c.in_ok-count_next.ensures.number ∙ ap next_number inv.number) in
    let more : flood_events seed (n + 1) ≡ q ++ e ∷ [] = events_more seed n x e number refl in
    let fits : length q < last_version = rw (length-flood_events seed n) (omega arith) in
    record {
      number = number;
      counted = λ s h. let i = inv.counted s h in rw more (c.in_ok-count_next.ensures.counted s q fits i.0 i.1);
      few = still_few (n * 2 ^ 64 + 2 ^ 64) ((n + 1) * 2 ^ 64) c.count_next.new.counts (omega arith) (c.in_ok-count_next.ensures.few (n * 2 ^ 64) inv.few);
    }
