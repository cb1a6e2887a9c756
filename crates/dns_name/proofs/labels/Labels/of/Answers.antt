use Rattle.dns_name.proofs.Named.{name_labels}
use Rattle.dns_name.proofs.labels.Labels.of.Goals as goal

pub returns-clause-named : goal.returns-clause-named
returns-clause-named c = (name_labels c.args.message.now c.args.reach c.args.at c.requires.readable).0

pub returns-clause-few : goal.returns-clause-few
returns-clause-few c = (name_labels c.args.message.now c.args.reach c.args.at c.requires.readable).1
