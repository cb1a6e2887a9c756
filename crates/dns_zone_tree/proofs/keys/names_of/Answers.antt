use Rattle.std.proofs.Common.{arith, subst, sym}
use Rattle.std.proofs.lemmas.Result.{err_from_is_err_and}
use Rattle.dns_zone_tree.specs.Names.{KnowsNames}
use Rattle.dns_zone_tree.specs.Nodes.{Names}
use Rattle.dns_zone_tree.proofs.KeyedLaws.{large_list}
use Rattle.dns_zone_tree.proofs.keys.names_of.Goals as goal

pub returns-then-records-gt-LARGEST : goal.returns-then-records-gt-LARGEST
returns-then-records-gt-LARGEST c = λ z. large_list c.args.records.now (omega arith)

pub returns-in_err-keys : goal.returns-in_err-keys
returns-in_err-keys c =
    let p = err_from_is_err_and c.from_residual.result c.from_residual.ensures.1 in
    rw (p.1, p.2) c.in_err-keys.ensures

pub returns : goal.returns
returns c =
    (c.in_ok-keys.ensures.0, subst (λ (n : Names). KnowsNames n c.args.records.now) (sym c.make_guide.ensures) (c.in_ok-names.ensures c.args.records.now c.in_ok-keys.ensures.1))
