use Rattle.std.proofs.Common.{map}
use Rattle.std.specs.Prelude.{codes}
use Rattle.std.proofs.lemmas.Result.{on_ok_weaker}
use Rattle.dns_script.proofs.Spaced.{line_made}
use Rattle.dns_script.specs.Spelled.{spelled_event, spelled_name}
use Rattle.dns_script.proofs.service_text.upstream_line.Goals as goal

pub returns : goal.returns
returns c =
    on_ok_weaker c.end_line.result
    (λ e. line_made c.args.text.now (codes "upstream") (spelled_name c.args.upstream.now.name) (map spelled_event c.args.upstream.now.words) c.name.new.self c.push_name.new.text c.push_events.new.text c.end_line.new.self
    c.in_ok-name.ensures.ok c.in_ok-push_name.ensures (rw c.as_slice.ensures at c.in_ok-push_events.ensures) e)
    c.end_line.ensures.ok
