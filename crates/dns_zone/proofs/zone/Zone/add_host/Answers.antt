use Rattle.std.proofs.Common.{◌≡◌, ap, ◌∙◌}
use Rattle.std.specs.Prelude.{◌||◌}
use Rattle.std.specs.BTreeSet.{contains}
use Rattle.std.specs.List.{slice_get}
use Rattle.std.specs.Ordering.{nat_cmp}
use Rattle.dns_zone.specs.Owned.{is_asked}
use Rattle.dns_zone.specs.Places.{passes}
use Rattle.dns_zone.proofs.GlueLaws.{host_added}
use Rattle.dns_zone.proofs.KeepLaws.{on_ok}
use Rattle.dns_zone.proofs.zone.Zone.add_host.Goals as goal

pub returns : goal.returns
returns c =
    let one : c.to_int.result ≡ 1 = c.to_int.ensures.value in
    let more : c.to_int-2.result ≡ 28 = c.to_int-2.ensures.value in
    on_ok c.add_owned-2.result c.add_owned-2.ensures
    (λ f i. host_added (contains nat_cmp c.add_owned-2.new.addresses i) (contains nat_cmp c.add_owned.new.addresses i) (contains nat_cmp c.args.addresses.now i) c.args.host.now (slice_get c.args.self.now.records i) (f c.args.host.now (c.as_slice-2.ensures.value ∙ c.in_ok-path.ensures) i ∙ ap (λ t. contains nat_cmp c.add_owned.new.addresses i || passes (is_asked c.args.host.now t) (slice_get c.args.self.now.records i)) more)
    (c.in_ok-add_owned.ensures c.args.host.now (c.as_slice.ensures.value ∙ c.in_ok-path.ensures) i ∙ ap (λ t. contains nat_cmp c.args.addresses.now i || passes (is_asked c.args.host.now t) (slice_get c.args.self.now.records i)) one))
