use Rattle.dns_session.specs.Serving.{serving}
use Rattle.dns_service.specs.PolledRequest.{request_answer}
use Rattle.std.proofs.Common.{◌≡◌, ◌∙◌, arith, length}
use Rattle.dns_dgram_driver.proofs.ObservedLaws.{tells_d, tells_dd_c, tells_d_dcj}
use Rattle.dns_dgram_driver.proofs.LoopRounds.{received_failed, received_again, got_goes, got_fails}
use Rattle.dns_dgram_driver.proofs.dgram_loop.DgramLoop.receive.Goals as goal

pub returns-in-Failed-clause-observed : goal.returns-in-Failed-clause-observed
returns-in-Failed-clause-observed g c = record { observed = tells_d c.in-Failed.ensures.moves (λ w. received_failed (request_answer g.W.Future.ReplyFuture.answer g.W.Stream.ReplyStream.answer) (serving (g.W.SharedService.answer c.args.self.now.service.now) (g.W.SharedService.hint c.args.self.now.service.now)) c.in-Failed.ensures.sends w); no_memory = tt }

pub returns-in-Again-clause-observed : goal.returns-in-Again-clause-observed
returns-in-Again-clause-observed g c = record {
  observed = tells_dd_c c.in-Again.ensures.moves c.readable.ensures.moves c.outdate.ensures (λ v w h. received_again (request_answer g.W.Future.ReplyFuture.answer g.W.Stream.ReplyStream.answer) (serving (g.W.SharedService.answer c.args.self.now.service.now) (g.W.SharedService.hint c.args.self.now.service.now)) (c.readable.ensures.sends ∙ c.in-Again.ensures.sends) v w h);
  no_memory = tt;
}

pub returns-in-Err-clause-observed : goal.returns-in-Err-clause-observed
returns-in-Err-clause-observed g c = record { observed = tt; no_memory = tells_d_dcj c.in-Got.ensures.moves c.in-Err.ensures.observed.no_memory (got_fails (request_answer g.W.Future.ReplyFuture.answer g.W.Stream.ReplyStream.answer) (serving (g.W.SharedService.answer c.args.self.now.service.now) (g.W.SharedService.hint c.args.self.now.service.now)) c.in-Got.ensures.sends (let h : length c.try_recv_buf_from.new.buf ≡ 1024 = omega arith in h)) }

pub returns-in-Ok-clause-observed : goal.returns-in-Ok-clause-observed
returns-in-Ok-clause-observed g c = record { observed = tells_d_dcj c.in-Got.ensures.moves c.in-Ok.ensures.observed.observed (got_goes (request_answer g.W.Future.ReplyFuture.answer g.W.Stream.ReplyStream.answer) (serving (g.W.SharedService.answer c.args.self.now.service.now) (g.W.SharedService.hint c.args.self.now.service.now)) c.in-Got.ensures.sends (let h : length c.try_recv_buf_from.new.buf ≡ 1024 = omega arith in h)); no_memory = tt }
