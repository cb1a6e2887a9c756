use Rattle.std.proofs.Common.{◌≡◌, ◌+◌, length, drop, refl, ap, sym, ◌∙◌, subst, arith}
use Rattle.std.specs.Option.{option_copied}
use Rattle.dns_routes.specs.Places.{name_key}
use Rattle.dns_routes.proofs.PairLaws.{tail_behind, under_behind}
use Rattle.dns_routes.proofs.RouteLaws.{AllUnder, found, missed, none_chosen}
use Rattle.dns_routes.proofs.SuffixLaws.{in_octets, next_octets, next_tail, rest_octets}
use Rattle.dns_routes.proofs.routes.Routes.deepest_in.Goals as goal

pub suffixes-init : goal.suffixes-init
suffixes-init g c =
    let q = c.args.name.now in
    let k = c.args.skipped in
    let e : c.args.rest ≡ drop k q = c.requires.rest in
    record {
      tail = tail_behind q c.args.rest k e (omega (arith, c.requires.skipped));
      octets = c.requires.octets ∙ ap name_key (sym e);
      under = under_behind q c.args.rest k c.args.self.now e c.requires.skipped;
    }

pub slice_bounds-named-count : goal.slice_bounds-named-count
slice_bounds-named-count g c =
    omega (arith, in_octets c.args.octets.now c.suffixes.at c.suffixes.left c.suffixes.invariant.octets)

pub slice_bounds-named-start : goal.slice_bounds-named-start
slice_bounds-named-start g c =
    omega (arith, in_octets c.args.octets.now c.suffixes.at c.suffixes.left c.suffixes.invariant.octets)

pub returns-in-Some : goal.returns-in-Some
returns-in-Some g c =
    found c.args.name.now c.suffixes.left c.suffixes.invariant.tail c.args.self.now _ c.in-Some.service.now c.suffixes.invariant.under (rest_octets c.args.octets.now c.args.octets.now c.suffixes.at c.suffixes.left refl c.suffixes.invariant.octets) (ap option_copied (sym c.in-Some.is) ∙ c.in_ok-service.ensures)

pub returns-in_default-next : goal.returns-in_default-next
returns-in_default-next g c =
    let q = c.args.name.now in
    let rs = c.args.self.now in
    let u = missed q c.suffixes.left c.suffixes.invariant.tail rs _ c.suffixes.invariant.under (rest_octets c.args.octets.now c.args.octets.now c.suffixes.at c.suffixes.left refl c.suffixes.invariant.octets) (ap option_copied (sym c.in_default.is) ∙ c.in_ok-service.ensures) in
    none_chosen q rs (subst (λ s. AllUnder (length s) q rs) c.in_default-next.ensures.steps.0 u)

pub suffixes-preserved : goal.suffixes-preserved
suffixes-preserved g c =
    let q = c.args.name.now in
    let rs = c.args.self.now in
    let e = c.in-Some-next.ensures.steps in
    let n : length c.suffixes.left ≡ length c.next.new.self + 1 = omega (arith, ap length e) in
    let u = missed q c.suffixes.left c.suffixes.invariant.tail rs _ c.suffixes.invariant.under (rest_octets c.args.octets.now c.args.octets.now c.suffixes.at c.suffixes.left refl c.suffixes.invariant.octets) (ap option_copied (sym c.in_default.is) ∙ c.in_ok-service.ensures) in
    record {
      tail = next_tail q c.suffixes.left c.next.new.self c.in-Some-next.label.now e c.suffixes.invariant.tail;
      octets = next_octets c.args.octets.now c.suffixes.at c.suffixes.left c.next.new.self c.in-Some-next.label.now e c.suffixes.invariant.octets;
      under = subst (λ k. AllUnder k q rs) n u;
    }
