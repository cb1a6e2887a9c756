use Rattle.std.proofs.Common.{◌≡◌, ◌≤◌, length, None, ap, sym, subst, ◌∙◌}
use Rattle.std.specs.List.{position}
use Rattle.dns_transfer.specs.Transfers.{bunched, transfer_records}
use Rattle.dns_zone.specs.Owned.{ZoneState}
use Rattle.dns_zone_tree.specs.Long.{is_long}
use Rattle.dns_authority.specs.ServedZones.{sent_of}
use Rattle.dns_authority.proofs.SentLaws.{transfers_are_the_records}
use Rattle.dns_authority.proofs.laws.zones_are_sent.Goals as goal

pub returns : goal.returns
returns g c = λ a r q s n h e m few.
    let short : position is_long (sent_of s.zone s.signing).records ≡ None = ap (λ (x : ZoneState). position is_long x.records) e ∙ (ap (position is_long) (sym c.records.ensures.value) ∙ c.records.ensures.short) in
    let enough : length (bunched (transfer_records (sent_of s.zone s.signing))) ≤ n = subst (λ (x : ZoneState). length (bunched (transfer_records x)) ≤ n) (sym e) few in
    transfers_are_the_records a r q s n h m short enough ∙ ap transfer_records e
