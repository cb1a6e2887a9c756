use Rattle.dns_zone.proofs.KeepLaws.{first_behind, none_behind}
use Rattle.dns_zone.proofs.name_places.NamePlaces.has_behind.Goals as goal

pub returns-in-Some : goal.returns-in-Some
returns-in-Some c = λ rs k.
    let f = first_behind c.args.self.now rs c.args.path.now k c.range.result c.next.new.self c.in-Some.key.now c.in-Some.field-0-1.now (c.range.ensures.in_range tt) c.in-Some.ensures.steps in
    cc (f, c.starts_with.ensures.value, c.as_slice.ensures.value, c.as_slice-in-Some.ensures.value)

pub returns-in-None : goal.returns-in-None
returns-in-None c = λ rs k. none_behind c.args.self.now rs c.args.path.now k c.range.result (c.range.ensures.in_range tt) c.in-None.ensures.steps.0
