use Rattle.std.proofs.Common.{List, ℕ, ap, subst, ◌∙◌}
use Rattle.std.specs.Option.{option_copied}
use Rattle.dns_route.specs.Routes.{ends_name}
use Rattle.dns_zone_tree.proofs.KeptLaws.{if_ok}
use Rattle.dns_signed_reply.specs.DirectReplies.{IsReached}
use Rattle.dns_signed_reply.proofs.absent.owner_of.Goals as goal

pub reached-requires : goal.reached-requires
reached-requires c = ap (λ (n : List (List ℕ)). ends_name n c.args.zone.now.apex) (c.for_ref.ensures.value ∙ c.owner.ensures) ∙ c.requires

pub returns : goal.returns
returns c =
    let z = c.args.zone.now in
    if_ok (λ o. IsReached z c.for_ref.result (option_copied o)) (λ o. IsReached z c.args.nsec.now.owner (option_copied o)) c.reached.result c.reached.ensures
    (λ o h. subst (λ (n : List (List ℕ)). IsReached z n (option_copied o)) (c.for_ref.ensures.value ∙ c.owner.ensures) h)
