use Rattle.std.proofs.Common.{◌≡◌, true, ap, length, sym, ◌∙◌, arith}
use Rattle.std.specs.List.{list_any}
use Rattle.dns_zone.specs.Owned.{is_asked}
use Rattle.dns_zone.specs.Places.{places}
use Rattle.dns_zone.proofs.AliasLaws.{leads_alias, leads_found, leads_nowhere}
use Rattle.dns_zone.proofs.PlaceLaws.{some_places}
use Rattle.dns_zone.proofs.zone.Zone.lead_on.Goals as goal

pub returns-in-Some : goal.returns-in-Some
returns-in-Some c = λ name e h n.
    let five : c.to_int.result ≡ 5 = c.to_int.ensures.value in
    let o = c.in-Some.ensures name e in
    let rs = c.args.self.now.records in
    let a : list_any (is_asked name 5) rs ≡ true = sym (ap (λ t. list_any (is_asked name t) rs) five) ∙ o.0 in
    let p : c.in-Some.next.now ≡ places (is_asked name 5) rs = o.1 ∙ ap (λ t. places (is_asked name t) rs) five in
    leads_alias c.args.self.now c.args.rtype name c.in-Some.next h n p (omega (arith, some_places (is_asked name 5) rs a, ap length p))

pub returns-in-Some-owned : goal.returns-in-Some-owned
returns-in-Some-owned c = λ name e h n.
    let five : c.to_int.result ≡ 5 = c.to_int.ensures.value in
    leads_found c.args.self.now c.args.rtype name c.in-Some-owned.found.now h n (sym (ap (λ t. list_any (is_asked name t) c.args.self.now.records) five) ∙ c.in_default.ensures name e) (c.in-Some-owned.ensures name e).1

pub returns-in-None : goal.returns-in-None
returns-in-None c = λ name e h n.
    let five : c.to_int.result ≡ 5 = c.to_int.ensures.value in
    leads_nowhere c.args.self.now c.args.rtype name h n (sym (ap (λ t. list_any (is_asked name t) c.args.self.now.records) five) ∙ c.in_default.ensures name e) (c.in-None.ensures name e)
