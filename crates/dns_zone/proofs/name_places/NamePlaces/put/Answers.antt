use Rattle.std.proofs.Common.{◌≡◌, false, [], Some, is_some, ap, sym, ◌∙◌}
use Rattle.dns_zone.specs.ZoneIndex.{kinds_under, places_in}
use Rattle.dns_zone.proofs.KeepLaws.{none_there, put_under, puts_of}
use Rattle.dns_zone.proofs.name_places.NamePlaces.put.Goals as goal

pub returns : goal.returns
returns c =
    let w = c.in_ok-kinds.kinds in
    let n : is_some (kinds_under c.args.self.now c.args.path.items) ≡ false = ap (λ o. is_some (kinds_under c.args.self.now o)) (sym c.as_slice-octets.ensures.value) ∙ (sym c.contains_key.ensures ∙ c.if-contains_key.false) in
    puts_of c.args.self.now (record { kinds = c.insert.new.self }) c.args.path.items c.args.rtype c.args.place (λ u. []) w (λ u. ap (places_in u) (none_there (kinds_under c.args.self.now c.args.path.items) n))
    (put_under c.args.path.items c.args.self.now.kinds c.insert.new.self (Some w) c.in_ok-insert.ensures.updates) c.in_ok-kinds.ensures
