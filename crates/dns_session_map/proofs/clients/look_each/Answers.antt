use Rattle.std.proofs.Common.{◌<◌, take, length, get_or, sym, ◌∙◌, arith}
use Rattle.std.proofs.lemmas.List.{take_more}
use Rattle.std.specs.BTreeMap.{keys}
use Rattle.dns_service.specs.PolledRequest.{request_answer}
use Rattle.dns_session_map.proofs.Steps.{one_more, is_new_number, is_there, all_done}
use Rattle.dns_session_map.proofs.clients.look_each.Goals as goal

pub loop-number-preserved : goal.loop-number-preserved
loop-number-preserved g c =
    let answer = request_answer g.W.Future.ReplyFuture.answer g.W.Stream.ReplyStream.answer in
    let i = c.loop-number.number-index in
    let ns = c.args.numbers.now in
    let n = get_or ns i 0 in
    let lt : i < length ns = omega arith in
    let fresh = is_new_number ns i (rw (← c.requires.all) at c.requires.rising) lt in
    let there = is_there c.loop-number.clients ns i (c.loop-number.invariant.same_keys ∙ sym c.requires.all) lt in
    record {
      same_keys = c.in_ok-look_more.ensures.same_keys ∙ c.loop-number.invariant.same_keys;
      looked = λ answers slates versions all.
          let so = c.loop-number.invariant.looked answers slates versions all in
          rw (take_more ns i 0 lt, c.in_ok-look_more.ensures.here.1) (one_more answer answers c.loop-number.clients c.look_more.new.clients (take i ns) n c.args.look.now c.loop-number.outs.items c.in_ok-look_more.ensures.here.0 slates versions fresh there (c.in_ok-look_more.ensures.here.2 answers) c.in_ok-look_more.ensures.others so.0 so.1);
    }

pub returns-clause-looked : goal.returns-clause-looked
returns-clause-looked g c = λ answers slates versions all.
    let answer = request_answer g.W.Future.ReplyFuture.answer g.W.Stream.ReplyStream.answer in
    all_done answer answers c.loop-number.clients c.args.numbers.now (keys c.args.clients.now) c.loop-number.number-index c.args.look.now c.loop-number.outs.items slates versions (c.loop-number.invariant.same_keys ∙ sym c.requires.all) c.requires.all c.loop-number-test.false (c.loop-number.invariant.looked answers slates versions all)
