use Rattle.std.proofs.Common.{◌<◌, length, arith, refl}
use Rattle.dns_service.specs.PolledRequest.{request_answer}
use Rattle.dns_dgram_driver.proofs.Places.{turned_first}
use Rattle.dns_dgram_driver.proofs.exchanges.turn_front.Goals as goal

pub returns : goal.returns
returns g c =
    let answer = request_answer g.W.Future.ReplyFuture.answer g.W.Stream.ReplyStream.answer in
    let xs = c.args.exchanges.now.items in
    let h : 0 < length xs = let a = c.args.exchanges.now.ok.0 in let b = c.requires in omega arith in
    turned_first answer xs _ c.index_mut.result.now c.turn_kept.new.kept c.in_ok-packet.packet c.in_ok-packet.done h c.index_mut.ensures.value refl c.turn_kept.ensures.number c.in_ok-packet.ensures.turned
