use Rattle.std.proofs.Common.{◌≡◌, ℕ, List, refl, ap, sym, ◌∙◌}
use Rattle.dns_route.specs.Routes.{ends_name}
use Rattle.dns_hashed_reply.proofs.ChoiceLaws.{all_places, all_said, alone, with_targets}
use Rattle.dns_hashed_reply.proofs.denials.chosen_for.Goals as goal

pub add_name-requires : goal.add_name-requires
add_name-requires c = ap (λ (n : List (List ℕ)). ends_name n c.args.zone.now.zone.apex) (c.for_ref.ensures.value ∙ (c.in_ok-name.ensures ∙ c.qname.ensures)) ∙ c.requires

pub returns-then-follows-clause-collides : goal.returns-then-follows-clause-collides
returns-then-follows-clause-collides c =
    let s = c.args.zone.now in
    let q = c.args.question.now in
    let a = c.args.answers.now in
    let h = with_targets s q a c.to_int-rtype.result (c.to_int-rtype.ensures.value ∙ c.qtype.ensures) c.for_ref.result (c.for_ref.ensures.value ∙ (c.in_ok-name.ensures ∙ c.qname.ensures)) _ c.add_name.new.chosen c.add_targets.new.chosen c.in_ok-add_name.ensures c.in_ok-add_targets.ensures (sym c.follows.ensures ∙ c.if-follows.true) in
    all_said s q a _ c.add_targets.new.chosen h refl c.new.ensures.items

pub returns-then-follows-clause-places : goal.returns-then-follows-clause-places
returns-then-follows-clause-places c =
    let s = c.args.zone.now in
    let q = c.args.question.now in
    let a = c.args.answers.now in
    let h = with_targets s q a c.to_int-rtype.result (c.to_int-rtype.ensures.value ∙ c.qtype.ensures) c.for_ref.result (c.for_ref.ensures.value ∙ (c.in_ok-name.ensures ∙ c.qname.ensures)) _ c.add_name.new.chosen c.add_targets.new.chosen c.in_ok-add_name.ensures c.in_ok-add_targets.ensures (sym c.follows.ensures ∙ c.if-follows.true) in
    all_places s q a _ c.add_targets.new.chosen h refl c.new.ensures.items

pub returns-clause-collides : goal.returns-clause-collides
returns-clause-collides c =
    let s = c.args.zone.now in
    let q = c.args.question.now in
    let a = c.args.answers.now in
    let h = alone s q a c.to_int-rtype.result (c.to_int-rtype.ensures.value ∙ c.qtype.ensures) c.for_ref.result (c.for_ref.ensures.value ∙ (c.in_ok-name.ensures ∙ c.qname.ensures)) _ c.add_name.new.chosen c.in_ok-add_name.ensures (sym c.follows.ensures ∙ c.if-follows.false) in
    all_said s q a _ c.add_name.new.chosen h refl c.new.ensures.items

pub returns-clause-places : goal.returns-clause-places
returns-clause-places c =
    let s = c.args.zone.now in
    let q = c.args.question.now in
    let a = c.args.answers.now in
    let h = alone s q a c.to_int-rtype.result (c.to_int-rtype.ensures.value ∙ c.qtype.ensures) c.for_ref.result (c.for_ref.ensures.value ∙ (c.in_ok-name.ensures ∙ c.qname.ensures)) _ c.add_name.new.chosen c.in_ok-add_name.ensures (sym c.follows.ensures ∙ c.if-follows.false) in
    all_places s q a _ c.add_name.new.chosen h refl c.new.ensures.items
