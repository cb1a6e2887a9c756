use Rattle.std.proofs.Common.{List, ap, ◌∙◌}
use Rattle.std.specs.List.{count_by}
use Rattle.dns_zone_tree.specs.Kinds.{is_kind}
use Rattle.dns_zone_tree.specs.declared.kinds.TypedPlace.{TypedPlace}
use Rattle.dns_zone_tree.proofs.KindLaws.{kinds_count}
use Rattle.dns_zone_tree.proofs.kinds.Kinds.count.Goals as goal

pub returns : goal.returns
returns c = c.count_kinds.ensures ∙ (ap (λ (ks : List TypedPlace). count_by (is_kind c.args.rtype) ks) c.as_slice.ensures ∙ kinds_count c.args.rtype c.args.self.now.places.items)
