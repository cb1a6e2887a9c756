use Rattle.std.proofs.Common.{sym, ◌∙◌}
use Rattle.dns_session.specs.Serving.{serving}
use Rattle.dns_service.specs.PolledRequest.{request_answer}
use Rattle.dns_dgram_driver.proofs.ObservedLaws.{if_ok_two, on_err_by, tells_cj, tells_none}
use Rattle.dns_dgram_driver.proofs.Turns.{looks_by, fails_look}
use Rattle.dns_dgram_driver.proofs.Unheard.{news_shown, looks_heard}
use Rattle.dns_dgram_driver.proofs.dgram_loop.DgramLoop.look_once.Goals as goal

pub returns-in-Some-clause-observed : goal.returns-in-Some-clause-observed
returns-in-Some-clause-observed g c =
    let s = c.args.self.now.state.now in
    let a = request_answer g.W.Future.ReplyFuture.answer g.W.Stream.ReplyStream.answer in
    let b = serving (g.W.SharedService.answer c.args.self.now.service.now) (g.W.SharedService.hint c.args.self.now.service.now) in
    let called = rw (news_shown s.heard _ c.in-Some.look (sym c.look_for_news-news.ensures.news ∙ c.in-Some.is)) at
    c.look_for_news-news.ensures.called in
    record {
      observed = if_ok_two c.apply_news.result c.apply_news.ensures.observed c.apply_news.ensures.heard
          (λ d h. rw h (tells_cj d (looks_by a b s c.look_for_news-news.new.seat called)));
      no_memory = on_err_by c.apply_news.result c.apply_news.ensures.no_memory (λ d. tells_cj d (fails_look a b s called));
    }

pub returns-in-None-clause-observed : goal.returns-in-None-clause-observed
returns-in-None-clause-observed g c =
    let s = c.args.self.now.state.now in
    let a = request_answer g.W.Future.ReplyFuture.answer g.W.Stream.ReplyStream.answer in
    let b = serving (g.W.SharedService.answer c.args.self.now.service.now) (g.W.SharedService.hint c.args.self.now.service.now) in
    let none = sym c.look_for_news-news.ensures.news ∙ c.in-None.is in
    record {
      observed = tells_none (looks_heard a b s c.look_for_news-news.new.seat c.look_for_news-news.ensures.called none);
      no_memory = tt;
    }
