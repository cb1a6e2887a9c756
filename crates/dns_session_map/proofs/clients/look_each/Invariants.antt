use Rattle.dns_session.specs.Serving.{Serving}
use Rattle.std.proofs.Common.{◌≡◌, ℕ, take}
use Rattle.std.specs.List.{flat_map}
use Rattle.std.specs.BTreeMap.{keys}
use Rattle.dns_service.specs.PolledRequest.{request_answer}
use Rattle.dns_session.specs.News.{look_effect}
use Rattle.dns_session.specs.Slate.{Slate}
use Rattle.dns_session_map.specs.Serves.{StandAll}
use Rattle.dns_session_map.proofs.Steps.{mixed, mixed_versions}
use Rattle.dns_session_map.proofs.clients.look_each.Given as goal

-- the clients so far have looked, and the others are as they were
abbrev pub invariant-loop-number : goal.invariant-loop-number
invariant-loop-number g l =
    let answer = request_answer g.W.Future.ReplyFuture.answer g.W.Stream.ReplyStream.answer in
    record {
      same_keys : keys l.clients ≡ keys l.fn.clients;
      looked : (answers : Serving) (slates : ℕ → Slate) (versions : ℕ → ℕ) → StandAll answer answers l.fn.clients slates versions →
          (l.outs.items ≡ flat_map (λ c. (look_effect answers (versions c) l.look (slates c)).1) (take l.number-index l.numbers))
          × StandAll answer answers l.clients (mixed answers l.look (take l.number-index l.numbers) slates versions) (mixed_versions l.look (take l.number-index l.numbers) versions);
    }
