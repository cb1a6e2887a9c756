use Rattle.std.proofs.Common.{◌≡◌, ◌∙◌, ◌<◌, ◌+◌, ◌++◌, ◌∷◌, [], ap, get_or, length, map, sym, take, arith}
use Rattle.std.proofs.lemmas.List.{get_or_default, map_more}
use Rattle.dns_host.specs.declared.host.HostEnd.{HostEnd}
use Rattle.dns_workers.specs.Workers.{end_of_all, graver_end, outcome_of}
use Rattle.dns_workers.proofs.OneByOne.{ended_more, joined_more, one_turned}
use Rattle.dns_workers.proofs.seats.join_workers.Goals as goal

pub loop-worker-preserved : goal.loop-worker-preserved
loop-worker-preserved g c =
    let i = c.loop-worker.worker-index in
    let now = c.loop-worker.workers in
    let ws = c.args.workers.now in
    let w = get_or now i c.worker-item.result in
    let lt : i < length now = omega arith in
    let first : i < length ws = omega arith in
    let is : w ≡ get_or now i w = get_or_default now i c.worker-item.result w lt in
    let same : w ≡ get_or ws i w = is ∙ c.loop-worker.invariant.turned.rest i w (omega arith) in
    let os = map outcome_of (take i ws) in
    let more : map outcome_of (take (i + 1) ws) ≡ os ++ outcome_of w ∷ [] = map_more outcome_of ws i w first ∙ ap (λ v. os ++ outcome_of v ∷ []) (sym same) in
    record {
      joined = rw more (joined_more c.args.seat.known c.loop-worker.seat.known c.give_back-seat.result.known os (outcome_of w) c.loop-worker.invariant.joined c.give_back-seat.ensures.joined);
      book = c.give_back-seat.ensures.same ∙ c.loop-worker.invariant.book;
      end = c.graver_end-end.ensures ∙ (ap (λ (x : HostEnd). graver_end x c.host_end.result) c.loop-worker.invariant.end
          ∙ (ap (λ (x : HostEnd). graver_end (end_of_all c.args.end os) x) c.host_end.ensures
          ∙ (sym (ended_more c.args.end os (outcome_of w)) ∙ ap (end_of_all c.args.end) (sym more))));
      turned = one_turned _ i ws now w c.give_back-seat.new.self lt is c.loop-worker.invariant.turned c.give_back-seat.ensures.parts;
    }
