use Rattle.std.proofs.Common.{rules, Some, ap, sym}
use Rattle.dns_zone.specs.ZoneIndex.{places_in}
use Rattle.dns_zone.specs.Places.{kind_places}
use Rattle.dns_zone.proofs.KeepLaws.{on_ok, put_under, puts_of}
use Rattle.dns_zone.proofs.name_places.NamePlaces.put_behind.Goals as goal

pub returns : goal.returns
returns c =
    let w = c.put_kind.new.kinds in
    let m = c.get_mut.follows.lender w in
    on_ok c.put_kind.result c.put_kind.ensures
    (puts_of c.args.self.now (record { kinds = m }) c.args.path.now c.args.rtype c.args.place (λ u. kind_places u c.in-Some.kinds.now) w (λ u. ap (places_in u) (sym c.in-Some.ensures.value))
    (put_under c.args.path.now c.args.self.now.kinds m (Some w) ((c.get_mut.follows.holds w).3 (search rules))))
