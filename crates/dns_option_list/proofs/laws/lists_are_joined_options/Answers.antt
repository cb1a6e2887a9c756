use Rattle.dns_option_list.proofs.JoinedLaws.{list_joined, options_joined}
use Rattle.dns_option_list.proofs.laws.lists_are_joined_options.Goals as goal

pub returns-clause-options : goal.returns-clause-options
returns-clause-options c = options_joined

pub returns-clause-list : goal.returns-clause-list
returns-clause-list c = list_joined
