use Rattle.std.proofs.Common.{◌≡◌, None, Err, ap, sym, subst, ◌∙◌}
use Rattle.dns_zone.specs.Owned.{ZoneState}
use Rattle.dns_zone_tree.specs.Names.{KnowsNames}
use Rattle.dns_zone_tree.specs.TreeErrors.{Makes, tree_error}
use Rattle.dns_zone_tree.proofs.ErrorLaws.{all_within, none_long, one_soa}
use Rattle.dns_zone_tree.proofs.zone_tree.ZoneTree.new.Goals as goal

pub made-requires : goal.made-requires
made-requires c =
    let e : tree_error c.args.apex c.args.records.items ≡ None = sym (ap (tree_error c.args.apex) c.as_slice.ensures.value) ∙ c.in-Ok.ensures.0 in
    record {
      lawful = c.requires;
      within = all_within c.args.apex c.args.records.items e;
      short = none_long c.args.apex c.args.records.items e;
      one = one_soa c.args.apex c.args.records.items e;
      known = subst (KnowsNames c.in-Ok.names) c.as_slice.ensures.value c.in-Ok.ensures.1;
    }

pub returns-in-Err : goal.returns-in-Err
returns-in-Err c =
    let z : ZoneState = record { apex = c.args.apex; records = c.args.records.items } in
    subst (λ l. Makes (tree_error c.args.apex l) z (Err c.in-Err.error)) c.as_slice.ensures.value (c.in-Err.ensures z)

pub returns-in-Ok-made : goal.returns-in-Ok-made
returns-in-Ok-made c = (sym (ap (tree_error c.args.apex) c.as_slice.ensures.value) ∙ c.in-Ok.ensures.0, c.in-Ok-made.ensures)
