-- What is kept is what is asked elsewhere.
use Rattle.std.proofs.Common.{rules, ◌≡◌, ◌∙◌, ap, subst, sym}
use Rattle.std.proofs.lemmas.Fn.{filter_same}
use Rattle.dns_outstanding.specs.Outstanding.{AreAskedOnce, is_elsewhere, without}
use Rattle.dns_outstanding.proofs.Counts.{asked-without}
use Rattle.dns_outstanding.proofs.outstanding.Outstanding.end.Goals as goal

pub invariant_of-self : goal.invariant_of-self
invariant_of-self c =
    let kept : c.retain.new.self.items ≡ without c.args.place c.self.inside.asked.items = filter_same _ (is_elsewhere c.args.place) _ (λ x b f' k. search rules) _ _ c.retain.ensures.filtered in
    subst AreAskedOnce (sym kept) (asked-without c.args.place c.self.inside.asked.items c.self.invariant)

pub returns : goal.returns
returns c = filter_same _ (is_elsewhere c.args.place) _ (λ x b f' k. search rules) _ _ c.retain.ensures.filtered ∙ ap (without c.args.place) c.self.view_is
