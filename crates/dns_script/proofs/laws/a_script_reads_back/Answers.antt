use Rattle.dns_script.proofs.ScriptBack.{script_back}
use Rattle.dns_script.proofs.laws.a_script_reads_back.Goals as goal

pub returns : goal.returns
returns c = script_back
