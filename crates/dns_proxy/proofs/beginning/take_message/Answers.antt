-- A message that makes no request is answered as its exchange answers it, and of another a request is taken.
use Rattle.std.proofs.Common.{◌≡◌, ◌≤◌, ◌<◌, ◌∙◌, List, ℕ, Option, Some, length, ap, refl, subst, true, false}
use Rattle.std.proofs.lemmas.Result.{IfOk-weaker, on_ok_weaker}
use Rattle.dns_base.specs.Header.{header_of}
use Rattle.dns_service.specs.Answer.{Item}
use Rattle.dns_proxy.specs.Coming.{message_of, outputs_to, refused_by}
use Rattle.dns_proxy.specs.Fronts.{fronting}
use Rattle.dns_proxy.proofs.ClientMessages.{as_request, as_response, as_short, front_after, front_left, request_read, response, short}
use Rattle.dns_proxy.proofs.beginning.take_message.Goals as goal

pub returns-in_default-clause-taken : goal.returns-in_default-clause-taken
returns-in_default-clause-taken g c =
    let v = c.args.front.now in
    let f = fronting (g.F.Front.over v) (g.F.Front.hint v) (g.F.Front.asks v) in
    λ u id. short f c.args.config.now c.args.came.now (subst (λ (o : List ℕ). length o < 12) c.in_ok-octets.ensures c.in_default.ensures.1)

pub returns-in_default-clause-front : goal.returns-in_default-clause-front
returns-in_default-clause-front g c =
    front_left g.F.Front.after_take c.args.config.now c.args.came.now c.args.front.now
    (as_short (message_of c.args.came.now) (subst (λ (o : List ℕ). length o < 12) c.in_ok-octets.ensures c.in_default.ensures.1))

pub returns-then-header-clause-taken : goal.returns-then-header-clause-taken
returns-then-header-clause-taken g c =
    let v = c.args.front.now in
    let f = fronting (g.F.Front.over v) (g.F.Front.hint v) (g.F.Front.asks v) in
    let came = c.args.came.now in
    let dgram = c.args.config.now in
    let e : c.in-Ok.message ≡ message_of came = c.in-Ok.ensures.0 ∙ c.in_ok-octets.ensures in
    let long : 12 ≤ length (message_of came) = subst (λ (o : List ℕ). 12 ≤ length o) c.in_ok-octets.ensures c.in-Ok.ensures.1 in
    let qr : (header_of c.in-Ok.message).qr ≡ true = rw (← c.header.ensures) c.if-header.true in
    let says = response f dgram came long (subst (λ (o : List ℕ). (header_of o).qr ≡ true) e qr) in
    λ u id. (says.0, λ (i : Item). ap (λ (o : List ℕ). outputs_to came (Some o)) (c.in_ok-refusal.ensures ∙ ap (refused_by came.transport dgram) e) ∙ says.1 i)

pub returns-then-header-clause-front : goal.returns-then-header-clause-front
returns-then-header-clause-front g c =
    let came = c.args.came.now in
    let e : c.in-Ok.message ≡ message_of came = c.in-Ok.ensures.0 ∙ c.in_ok-octets.ensures in
    let long : 12 ≤ length (message_of came) = subst (λ (o : List ℕ). 12 ≤ length o) c.in_ok-octets.ensures c.in-Ok.ensures.1 in
    let qr : (header_of c.in-Ok.message).qr ≡ true = rw (← c.header.ensures) c.if-header.true in
    front_left g.F.Front.after_take c.args.config.now came c.args.front.now (as_response (message_of came) long (subst (λ (o : List ℕ). (header_of o).qr ≡ true) e qr))

pub returns-clause-taken : goal.returns-clause-taken
returns-clause-taken g c =
    let came = c.args.came.now in
    let dgram = c.args.config.now in
    let e : c.in-Ok.message ≡ message_of came = c.in-Ok.ensures.0 ∙ c.in_ok-octets.ensures in
    let long : 12 ≤ length (message_of came) = subst (λ (o : List ℕ). 12 ≤ length o) c.in_ok-octets.ensures c.in-Ok.ensures.1 in
    let query : (header_of c.in-Ok.message).qr ≡ false = rw (← c.header.ensures) c.if-header.false in
    let asks = as_request (message_of came) long (subst (λ (o : List ℕ). (header_of o).qr ≡ false) e query) in
    let r = request_read dgram came c.in-Ok.message c.in_ok-request.request e c.in_ok-request.ensures in
    IfOk-weaker c.take.result _ _ (λ t says. says dgram came r refl asks) c.take.ensures.taken

pub returns-clause-front : goal.returns-clause-front
returns-clause-front g c =
    let came = c.args.came.now in
    let dgram = c.args.config.now in
    let e : c.in-Ok.message ≡ message_of came = c.in-Ok.ensures.0 ∙ c.in_ok-octets.ensures in
    let long : 12 ≤ length (message_of came) = subst (λ (o : List ℕ). 12 ≤ length o) c.in_ok-octets.ensures c.in-Ok.ensures.1 in
    let query : (header_of c.in-Ok.message).qr ≡ false = rw (← c.header.ensures) c.if-header.false in
    let asks = as_request (message_of came) long (subst (λ (o : List ℕ). (header_of o).qr ≡ false) e query) in
    let r = request_read dgram came c.in-Ok.message c.in_ok-request.request e c.in_ok-request.ensures in
    on_ok_weaker c.take.result (λ is. front_after g.F.Front.after_take dgram came c.args.front.now c.in_ok-request.request c.take.new.front asks r is) c.take.ensures.front
