use Rattle.dns_name.proofs.Grammars.{read_in, found_read, plain_read, plain_found}
use Rattle.dns_name.proofs.laws.names_are_the_grammar.Goals as goal

pub returns-clause-compressed : goal.returns-clause-compressed
returns-clause-compressed c o limit at end ls = (found_read o limit at ls end, read_in o limit at ls end)

pub returns-clause-uncompressed : goal.returns-clause-uncompressed
returns-clause-uncompressed c o at end ls = (plain_found o at ls end, plain_read o at ls end)
