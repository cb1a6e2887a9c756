use Rattle.std.proofs.Common.{◌≡◌, Some, None, ap, sym, ◌∙◌}
use Rattle.dns_zone.specs.Owned.{target}
use Rattle.dns_zone.specs.Places.{at_places}
use Rattle.dns_zone_tree.proofs.KeptLaws.{if_ok}
use Rattle.dns_zone_tree.specs.Kinds.{kind_places}
use Rattle.dns_name_server.specs.NameServerReplies.{behind_alias, by_dname, by_target}
use Rattle.dns_name_server.specs.Steps.{head_of}
use Rattle.dns_name_server.proofs.StepLaws.{dname_head, dname_none}
use Rattle.dns_signed_reply.specs.PlainReplies.{StepsTo, behind}
use Rattle.dns_signed_reply.specs.declared.step.Step.{Step}
use Rattle.dns_signed_reply.proofs.StepLaws.{head_at}
use Rattle.dns_signed_reply.proofs.step.at_dname.Goals as goal

pub returns-in-Some : goal.returns-in-Some
returns-in-Some c =
    let z = c.args.zone.now in
    let t = c.args.rtype in
    let n = c.args.name.now in
    let d = c.in-Some.dname.now in
    let old = c.args.given.now.items in
    let new = c.give_dname.new.given.items in
    let rs = at_places z.records (kind_places 39 c.args.kinds.now) in
    let e : Some d ≡ head_of rs = c.in-Some.ensures.value ∙ (head_at c.as_slice.result.now ∙ ap head_of (c.as_slice.ensures.value ∙ c.in_ok-found.ensures)) in
    if_ok (λ (s : Step). StepsTo old new s (λ go. behind_alias d (by_target go t n d (target d.rdata)))) (λ (s : Step). StepsTo old new s (λ go. by_dname go t n rs)) c.give_dname.result c.give_dname.ensures
    (λ s g go. g go ∙ ap (behind old) (sym (dname_head go t n rs d e)))

pub returns : goal.returns
returns c = λ go.
    let rs = at_places c.args.zone.now.records (kind_places 39 c.args.kinds.now) in
    let e : None ≡ head_of rs = c.in-None.ensures.value ∙ (head_at c.as_slice.result.now ∙ ap head_of (c.as_slice.ensures.value ∙ c.in_ok-found.ensures)) in
    ap (behind c.args.given.now.items) (c.nothing.ensures ∙ sym (dname_none go c.args.rtype c.args.name.now rs e))
