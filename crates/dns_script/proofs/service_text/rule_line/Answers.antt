use Rattle.std.proofs.Common.{map}
use Rattle.std.specs.Prelude.{codes}
use Rattle.std.proofs.lemmas.Result.{on_ok_weaker}
use Rattle.dns_script.proofs.Spaced.{line_made}
use Rattle.dns_script.specs.Spelled.{name_or_star, spelled_answer}
use Rattle.dns_script.proofs.service_text.rule_line.Goals as goal

pub returns : goal.returns
returns c =
    on_ok_weaker c.end_line.result
    (λ e. line_made c.args.text.now (codes "rule") (name_or_star c.args.rule.now.name) (map spelled_answer c.args.rule.now.answers) c.name.new.self c.push_name_or_star.new.text c.push_answers.new.text c.end_line.new.self
    c.in_ok-name.ensures.ok c.in_ok-push_name_or_star.ensures (rw c.as_slice.ensures at c.in_ok-push_answers.ensures) e)
    c.end_line.ensures.ok
