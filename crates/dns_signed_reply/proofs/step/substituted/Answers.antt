use Rattle.std.proofs.Common.{◌≡◌, ◌-◌, ℕ, length, take, ap, sym, ◌∙◌, arith}
use Rattle.dns_signed_reply.proofs.StepLaws.{sub_long, sub_on}
use Rattle.dns_signed_reply.proofs.step.substituted.Goals as goal

pub returns-in-Some : goal.returns-in-Some
returns-in-Some c = λ go.
    let n : c.saturating_sub-count.result ≡ length c.args.name.now - length c.args.dname.now.owner = omega arith in
    sub_on _ _ _ _ go c.args.rtype c.args.name.now c.args.dname.now c.args.target.now c.in-Some.to _ c.in_ok-push-in-Some.ensures.items c.in_ok-alias-in-Some.ensures (c.gone_to.ensures go) (sym c.in-Some.is ∙ c.in_ok-found.ensures) (c.in_ok-front.ensures ∙ ap (λ (i : ℕ). take i c.args.name.now) n)

pub returns : goal.returns
returns c = λ go.
    let n : c.saturating_sub-count.result ≡ length c.args.name.now - length c.args.dname.now.owner = omega arith in
    sub_long _ _ go c.args.rtype c.args.name.now c.args.dname.now c.args.target.now _ c.too_long.ensures (sym c.in-None.is ∙ c.in_ok-found.ensures) (c.in_ok-front.ensures ∙ ap (λ (i : ℕ). take i c.args.name.now) n)
