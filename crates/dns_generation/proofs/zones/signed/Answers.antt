use Rattle.std.proofs.Common.{subst}
use Rattle.dns_zone.specs.Owned.{ZoneState}
use Rattle.dns_zone_tree.specs.TreeErrors.{tree_error}
use Rattle.std.specs.Prelude.{◌≡◌, None, List}
use Rattle.dns_denial.specs.Chains.{IsWhole}
use Rattle.dns_denial.specs.Nsecs.{NsecState}
use Rattle.dns_generation.proofs.zones.signed.Goals as goal

pub returns-in-Ok-clause-ok : goal.returns-in-Ok-clause-ok
returns-in-Ok-clause-ok c =
    let s = c.in-Ok.zone in
    let z : ZoneState = record { apex = c.args.apex; records = c.args.records.items } in
    let e : s.zone ≡ z = c.in-Ok.ensures.zone in
    let w = subst (λ (ns : List NsecState). IsWhole s.zone ns) c.chain-whole.ensures.value c.chain-whole.ensures.whole in
    record {
      data_ = (
        c.requires.bare,
        record {
          is = e;
          zone = subst (λ (x : ZoneState). tree_error x.apex x.records ≡ None) e w.zone;
          some = c.requires.some;
          nsecs_ = c.in-Ok.ensures.nsecs;
          whole = subst (λ (x : ZoneState). IsWhole x s.nsecs) e w;
        },
      );
    }
