use Rattle.std.proofs.Common.{[], ◌∷◌}
use Rattle.std.specs.BTreeSet.{contains}
use Rattle.std.specs.Ordering.{nat_cmp}
use Rattle.dns_zone_tree.specs.Kinds.{places_of}
use Rattle.dns_zone_tree.proofs.HostLaws.{none_added, some_added}
use Rattle.dns_zone_tree.proofs.glue.add_kind.Goals as goal

pub returns-in_ok-insert-in-Some : goal.returns-in_ok-insert-in-Some
returns-in_ok-insert-in-Some c = λ i.
    some_added (contains nat_cmp c.insert.new.self i) (contains nat_cmp c.args.set.now i) i c.in-Some.place (places_of c.args.rtype (c.args.kind.now ∷ [])) c.in-Some.ensures (c.in_ok-insert-in-Some.ensures.updates.0 i)

pub returns-in-None : goal.returns-in-None
returns-in-None c = λ i. none_added (contains nat_cmp c.args.set.now i) i (places_of c.args.rtype (c.args.kind.now ∷ [])) c.in-None.ensures
