use Rattle.std.proofs.Common.{replicate}
use Rattle.std.specs.Prelude.{codes}
use Rattle.std.proofs.lemmas.Result.{on_ok_weaker}
use Rattle.dns_script.proofs.Spaced.{longer_line_made}
use Rattle.dns_script.specs.Spelled.{spelled_name, spelled_verdict}
use Rattle.dns_script.proofs.service_text.notify_line.Goals as goal

pub returns : goal.returns
returns c =
    on_ok_weaker c.end_line.result
    (λ e. longer_line_made c.args.text.now (codes "notify") (spelled_name c.args.rule.now.apex) (spelled_verdict c.args.rule.now.verdict) (replicate c.args.rule.now.pends (codes "pend")) c.name.new.self c.push_name.new.text
    c.push_pends.new.text c.word.new.self c.end_line.new.self
    c.in_ok-name.ensures.ok c.in_ok-push_name.ensures c.in_ok-push_pends.ensures (rw c.verdict_text.ensures at c.in_ok-word.ensures.ok) e)
    c.end_line.ensures.ok
