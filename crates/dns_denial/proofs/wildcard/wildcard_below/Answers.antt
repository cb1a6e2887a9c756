use Rattle.std.proofs.Common.{◌≡◌, ◌≤◌, ◌+◌, ◌++◌, [], ◌∷◌, length, Ok, ap, sym, ◌∙◌, arith}
use Rattle.dns_name.specs.Labels.{spell}
use Rattle.dns_name.specs.Names.{uncompressed_at}
use Rattle.dns_zone_tree.specs.Wildcards.{star}
use Rattle.dns_denial.proofs.SpellLaws.{read_all, wildcard_octets}
use Rattle.dns_denial.proofs.wildcard.wildcard_below.Goals as goal

pub unreachable-requires : goal.unreachable-requires
unreachable-requires c =
    let o = c.extend_from_slice.new.self.items in
    let ls = star ∷ c.args.name.now in
    let e : o ≡ (1 ∷ 42 ∷ []) ++ spell c.args.name.now =
    c.in_ok-extend_from_slice.ensures.items ∙ (λ i. c.in_ok-spelt.ensures.items i ++ c.as_slice-octets.ensures.value i) in
    let short : length (spell c.args.name.now) ≤ 253 = omega (arith, ap length c.as_slice-octets.ensures.value) in
    let k : uncompressed_at o 0 ≡ Ok (ls, 0 + length (spell ls)) = (c.names_are_the_grammar.ensures.uncompressed o 0 (0 + length (spell ls)) ls).0 (wildcard_octets c.args.name.now o e short c.as_slice-octets.ensures.named) in
    let r = sym c.in-Err.is ∙ (c.from_octets.ensures ∙ read_all o ls e k) in
    cc

pub returns : goal.returns
returns c =
    let o = c.extend_from_slice.new.self.items in
    let ls = star ∷ c.args.name.now in
    let e : o ≡ (1 ∷ 42 ∷ []) ++ spell c.args.name.now =
    c.in_ok-extend_from_slice.ensures.items ∙ (λ i. c.in_ok-spelt.ensures.items i ++ c.as_slice-octets.ensures.value i) in
    let short : length (spell c.args.name.now) ≤ 253 = omega (arith, ap length c.as_slice-octets.ensures.value) in
    let k : uncompressed_at o 0 ≡ Ok (ls, 0 + length (spell ls)) = (c.names_are_the_grammar.ensures.uncompressed o 0 (0 + length (spell ls)) ls).0 (wildcard_octets c.args.name.now o e short c.as_slice-octets.ensures.named) in
    let r = sym c.in-Ok.is ∙ (c.from_octets.ensures ∙ read_all o ls e k) in
    cc
