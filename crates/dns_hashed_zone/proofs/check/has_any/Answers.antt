use Rattle.std.proofs.Common.{◌≡◌, Bool, true, false, refl, ap, sym, ◌∙◌}
use Rattle.std.specs.Prelude.{◌&&◌, not}
use Rattle.std.specs.List.{list_any}
use Rattle.dns_denial.specs.Chains.{is_record_at}
use Rattle.dns_hashed_zone.proofs.check.has_any.Goals as goal

at_cut : (b cut : Bool) → cut ≡ true → false ≡ (b && not cut)
at_cut true cut e = sym (ap not e)
at_cut false cut e = refl

elsewhere : (b cut : Bool) → cut ≡ false → b ≡ (b && not cut)
elsewhere true cut e = sym (ap not e)
elsewhere false cut e = refl

pub returns-then-cut : goal.returns-then-cut
returns-then-cut c = at_cut (list_any (is_record_at c.args.name.now 255) c.args.zone.now.records) c.args.cut c.if-cut.true

pub returns : goal.returns
returns c = c.owns_any.ensures ∙ elsewhere (list_any (is_record_at c.args.name.now 255) c.args.zone.now.records) c.args.cut c.if-cut.false
