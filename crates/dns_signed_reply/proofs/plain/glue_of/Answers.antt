use Rattle.std.proofs.Common.{◌≡◌, ℕ, List, ap, ◌∙◌}
use Rattle.dns_message.specs.declared.record.Record.{Record}
use Rattle.dns_zone.specs.Cuts.{glue}
use Rattle.dns_zone.specs.Places.{at_places}
use Rattle.dns_zone_tree.proofs.KeptLaws.{if_ok}
use Rattle.dns_zone_tree.specs.Kinds.{kind_places}
use Rattle.dns_signed_reply.proofs.plain.glue_of.Goals as goal

pub returns-in-Some : goal.returns-in-Some
returns-in-Some c =
    let z = c.args.zone.now in
    let is = c.as_slice.result.now in
    if_ok (λ v. v.items ≡ at_places c.records.result.now is) (λ v. v.items ≡ glue z (at_places z.records (kind_places 2 c.args.cut.now))) c.at_places.result c.at_places.ensures
    (λ v e. e ∙ (ap (λ (rs : List Record). at_places rs is) c.records.ensures.value ∙ (ap (λ (x : List ℕ). at_places z.records x) c.as_slice.ensures.value ∙ c.in-Some.ensures.glued)))

pub returns-in_ok-places-in-None : goal.returns-in_ok-places-in-None
returns-in_ok-places-in-None c =
    let z = c.args.zone.now in
    let is = c.as_slice-in-None.result.now in
    if_ok (λ v. v.items ≡ at_places c.records-in-None.result.now is) (λ v. v.items ≡ glue z (at_places z.records (kind_places 2 c.args.cut.now))) c.at_places-in-None.result c.at_places-in-None.ensures
    (λ v e. e ∙ (ap (λ (rs : List Record). at_places rs is) c.records-in-None.ensures.value ∙ (ap (λ (x : List ℕ). at_places z.records x) c.as_slice-in-None.ensures.value ∙ c.in_ok-places-in-None.ensures)))
