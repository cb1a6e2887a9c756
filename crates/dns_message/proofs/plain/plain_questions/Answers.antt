use Rattle.std.proofs.Common.{◌-◌, arith}
use Rattle.dns_message.specs.Sections.{field}
use Rattle.dns_message.proofs.Plains.{all_stand, behind_none, none_stand, one_more_stands}
use Rattle.dns_message.proofs.plain.plain_questions.Goals as goal

pub items-init : goal.items-init
items-init c = record {
  within = c.requires;
  few = omega arith;
  stand = none_stand c.args.octets.now _ (omega arith);
}

pub items-preserved : goal.items-preserved
items-preserved c = record {
  within = c.in_ok-at.ensures.within;
  few = omega arith;
  stand = one_more_stands c.args.octets.now (field 4 c.args.octets.now - c.items.left) _ c.items.at c.in_ok-at.at c.items.invariant.stand c.in_ok-at.ensures.stands (let f = c.items.invariant.few in omega arith);
}

pub returns-in_err-at-clause-stand : goal.returns-in_err-at-clause-stand
returns-in_err-at-clause-stand c =
    rw c.from_residual.ensures
    (behind_none c.args.octets.now (field 4 c.args.octets.now - c.items.left) c.items.at c.items.invariant.stand (let f = c.items.invariant.few in omega arith) c.in_err-at.ensures.stands)

pub returns-clause-stand : goal.returns-clause-stand
returns-clause-stand c = all_stand c.args.octets.now _ c.items.at c.items.invariant.stand (omega arith)
