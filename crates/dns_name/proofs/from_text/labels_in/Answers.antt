use Rattle.std.proofs.Common.{List, ℕ, arith, sym, subst}
use Rattle.dns_name.specs.FromText.{text_labels}
use Rattle.dns_name.proofs.FromNames.{Reached, begun, reached_more, reached_end, but_first}
use Rattle.dns_name.proofs.from_text.labels_in.Goals as goal

pub labels-init : goal.labels-init
labels-init c = subst (λ (o : List ℕ). Reached (text_labels c.args.text.now) o c.args.text.now) (sym c.new-octets.ensures.items) (begun c.args.text.now)

pub returns-then-behind-lt2 : goal.returns-then-behind-lt2
returns-then-behind-lt2 c =
    reached_end (text_labels c.args.text.now) c.labels.octets.items c.push_label.new.octets.items c.labels.rest.now c.in_ok-behind.behind.now c.labels.invariant c.in_ok-behind.ensures (omega arith)

pub labels-preserved : goal.labels-preserved
labels-preserved c =
    let more = reached_more (text_labels c.args.text.now) c.labels.octets.items c.push_label.new.octets.items c.labels.rest.now c.in_ok-behind.behind.now c.labels.invariant c.in_ok-behind.ensures (omega arith) in
    subst (λ (t : List ℕ). Reached (text_labels c.args.text.now) c.push_label.new.octets.items t) (sym (but_first c.in_ok-behind.behind.now)) more
