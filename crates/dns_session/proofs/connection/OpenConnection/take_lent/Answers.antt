use Rattle.dns_session.specs.Serving.{serving}
use Rattle.std.proofs.Common.{arith, refl}
use Rattle.dns_framing.specs.PolledRequest.{request_answer}
use Rattle.dns_session.proofs.Taking.{no_more}
use Rattle.dns_session.proofs.Lent.{lent_more, rest_shorter}
use Rattle.dns_session.proofs.connection.OpenConnection.take_lent.Goals as goal

pub taking-init : goal.taking-init
taking-init g c = record { empty = c.requires.empty; takes = λ client s h. (s, h, refl) }

pub take_lent_frame-requires-clause-empty : goal.take_lent_frame-requires-clause-empty
take_lent_frame-requires-clause-empty g c = c.taking.invariant.empty

pub returns-in-Some : goal.returns-in-Some
returns-in-Some g c =
    let a = request_answer g.W.Future.ReplyFuture.answer g.W.Stream.ReplyStream.answer in
    let b = serving (g.W.SharedService.answer c.args.service.now) (g.W.SharedService.hint c.args.service.now) in
    no_more a b c.args.at c.args.secs (record c.args.self.now { framer = c.args.piece.now }) (record c.taking.self { framer = c.taking.rest.now }) c.take_lent_frame.new.self c.in-Some.outcome c.taking.invariant.takes (rw c.in-Some.is at c.in_ok-ended.ensures)

pub slice_bounds-rest-count : goal.slice_bounds-rest-count
slice_bounds-rest-count g c =
    let t = rw c.in_default.is at c.in_ok-ended.ensures in
    t.within

pub slice_bounds-rest-start : goal.slice_bounds-rest-start
slice_bounds-rest-start g c =
    let t = rw c.in_default.is at c.in_ok-ended.ensures in
    t.within

pub taking-preserved : goal.taking-preserved
taking-preserved g c =
    let a = request_answer g.W.Future.ReplyFuture.answer g.W.Stream.ReplyStream.answer in
    let b = serving (g.W.SharedService.answer c.args.service.now) (g.W.SharedService.hint c.args.service.now) in
    let t = rw c.in_default.is at c.in_ok-ended.ensures in
    record { empty = t.empty; takes = lent_more a b c.args.at c.args.secs c.args.self.now c.taking.self c.take_lent_frame.new.self c.args.piece.now c.taking.rest.now c.in_ok-ended.size c.taking.invariant.takes t }

pub taking-smaller : goal.taking-smaller
taking-smaller g c =
    let t = rw c.in_default.is at c.in_ok-ended.ensures in
    omega (arith, rest_shorter c.taking.rest.now c.in_ok-ended.size t.takes.less)
