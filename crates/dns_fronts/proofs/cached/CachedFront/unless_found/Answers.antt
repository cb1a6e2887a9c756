-- What is young is given, rewritten, and else a message is asked for.
use Rattle.std.proofs.Common.{◌∙◌, Option, ap}
use Rattle.std.specs.Prelude.{is_some}
use Rattle.std.proofs.lemmas.Result.{IfOk-weaker}
use Rattle.dns_service.specs.Answer.{Item}
use Rattle.dns_cache.specs.AskedCache.{Cached}
use Rattle.dns_fronts.specs.Caching.{looked_up}
use Rattle.dns_fronts.specs.Layered.{sendable}
use Rattle.dns_fronts.specs.declared.cached.CachedFront.{CachedFront}
use Rattle.dns_fronts.proofs.LayersOverCache.{none-behind, none-found, on-ok, taken-some, young-found}
use Rattle.dns_fronts.proofs.LoneQuestions.{lone_sent}
use Rattle.dns_fronts.proofs.cached.CachedFront.unless_found.Goals as goal

pub returns-in-Some-clause-taken : goal.returns-in-Some-clause-taken
returns-in-Some-clause-taken c =
    let r = c.args.request.now in
    IfOk-weaker c.own_by.result _ _ (λ t is.
    is ∙ young-found c.args.rule (sendable r.octets) (looked_up c.args.self.now.cache r).cached _ c.in-Some.young (lone_sent r.octets c.requires (c.in_ok-found.ensures.asked (ap (λ (x : Option Item). is_some x) c.in-Some.is))) c.in_ok-found.ensures.item c.in-Some.is) c.own_by.ensures

pub returns-in-Some-clause-cache : goal.returns-in-Some-clause-cache
returns-in-Some-clause-cache c =
    let f = c.args.self.now in
    let r = c.args.request.now in
    on-ok c.own_by.result (c.in_ok-found.ensures.cache ∙ ap (λ (x : Cached). let g : CachedFront = record f { cache = x } in g) (taken-some (sendable r.octets) f.cache (looked_up f.cache r).behind (lone_sent r.octets c.requires (c.in_ok-found.ensures.asked (ap (λ (x : Option Item). is_some x) c.in-Some.is)))))

pub returns-in-None-clause-taken : goal.returns-in-None-clause-taken
returns-in-None-clause-taken c =
    let r = c.args.request.now in
    IfOk-weaker c.pass.result _ _ (λ t is.
    is ∙ none-found c.args.rule (sendable r.octets) (looked_up c.args.self.now.cache r).cached _ c.in_ok-found.ensures.item c.in-None.is) c.pass.ensures

pub returns-in-None-clause-cache : goal.returns-in-None-clause-cache
returns-in-None-clause-cache c =
    let f = c.args.self.now in
    let r = c.args.request.now in
    on-ok c.pass.result (c.in_ok-found.ensures.cache ∙ ap (λ (x : Cached). let g : CachedFront = record f { cache = x } in g) (none-behind f.cache r (sendable r.octets) _ c.in_ok-found.ensures.item c.in-None.is))
