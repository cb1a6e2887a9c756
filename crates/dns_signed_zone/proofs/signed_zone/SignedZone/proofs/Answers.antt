use Rattle.std.proofs.Common.{◌≡◌, true, sym, subst}
use Rattle.std.specs.Prelude.{IfOk}
use Rattle.dns_route.specs.Routes.{ends_name}
use Rattle.dns_signed_zone.specs.SignedZones.{Proves, SignedState, proofs_in}
use Rattle.dns_signed_zone.proofs.signed_zone.SignedZone.proofs.Goals as goal

pub proofs_of-requires : goal.proofs_of-requires
proofs_of-requires c = record {
  whole = c.self.invariant;
  inside = subst (λ (s : SignedState). ends_name c.args.name.now s.zone.apex ≡ true) (sym c.self.view_is) c.requires;
}

pub returns : goal.returns
returns c = subst (λ (s : SignedState). IfOk c.proofs_of.result (λ p. Proves s c.args.rtype c.args.name.now (proofs_in p))) c.self.view_is c.proofs_of.ensures
