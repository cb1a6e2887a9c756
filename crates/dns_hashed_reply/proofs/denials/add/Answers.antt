use Rattle.std.proofs.Common.{ℕ, List, nat_eq, refl, ap, sym, ◌∙◌}
use Rattle.std.specs.List.{list_any}
use Rattle.dns_hashed_reply.proofs.ChoiceLaws.{adds_again, adds_more}
use Rattle.dns_hashed_reply.proofs.denials.add.Goals as goal

pub returns-then-has_place : goal.returns-then-has_place
returns-then-has_place c = adds_again c.args.chosen.now c.args.place (ap (list_any (nat_eq c.args.place)) (sym c.as_slice.ensures.value) ∙ (sym c.has_place.ensures ∙ c.if-has_place.true))

pub returns : goal.returns
returns c = adds_more c.args.chosen.now _ c.args.place refl (ap (list_any (nat_eq c.args.place)) (sym c.as_slice.ensures.value) ∙ (sym c.has_place.ensures ∙ c.if-has_place.false)) c.in_ok-push.ensures.items
