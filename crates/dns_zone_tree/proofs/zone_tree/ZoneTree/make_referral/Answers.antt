use Rattle.std.proofs.Common.{◌≡◌, ℕ, List, ◌++◌, map, ap, ◌∙◌}
use Rattle.dns_base.specs.Msg.{ResourceRecord}
use Rattle.dns_base.specs.Records.{record_of}
use Rattle.dns_message.specs.declared.record.Record.{Record}
use Rattle.dns_zone.specs.Cuts.{glue}
use Rattle.dns_zone.specs.Places.{at_places}
use Rattle.dns_zone_tree.specs.Kinds.{kind_places}
use Rattle.dns_zone_tree.proofs.zone_tree.ZoneTree.make_referral.Goals as goal

pub returns-clause-referral : goal.returns-clause-referral
returns-clause-referral c =
    let z = c.args.self.now in
    let m = c.args.cut.now in
    let servers = at_places z.records (kind_places 2 m) in
    let n : c.write_kind.new.into ≡ map record_of servers =
    c.in_ok-write_kind.ensures
    ∙ (ap (λ (l : List ResourceRecord). l ++ map record_of (at_places z.records (kind_places c.to_int.result m))) c.new-authority.ensures
    ∙ ap (λ (t : ℕ). map record_of (at_places z.records (kind_places t m))) c.to_int.ensures.value) in
    let x : c.in_ok-additional.additional ≡ map record_of (glue z servers) =
    c.in_ok-additional.ensures
    ∙ (ap (λ (rs : List Record). map record_of (at_places rs c.as_slice.result.now)) c.records.ensures.value
    ∙ (ap (λ (is : List ℕ). map record_of (at_places z.records is)) c.as_slice.ensures.value ∙ ap (map record_of) c.in_ok-glue.ensures)) in
    record { authority = n; glued = c.in_ok-glue.ensures; additional = x }
