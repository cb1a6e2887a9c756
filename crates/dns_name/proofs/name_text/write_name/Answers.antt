use Rattle.std.proofs.Common.{List, ℕ, refl, ap, sym, subst}
use Rattle.std.specs.Fmt.{HasWritten}
use Rattle.std.proofs.Output.{has_written_append}
use Rattle.dns_name.specs.NameText.{name_text}
use Rattle.dns_name.proofs.name_text.write_name.Goals as goal

pub returns : goal.returns
returns g c = λ p q.
    let w = c.in_ok-write.ensures.writes p refl in
    subst (λ (t : List ℕ). HasWritten g.W.Write.write_str_gives c.args.f.now t c.write_more.new.f) (sym (ap name_text c.in-Some.ensures.steps)) (has_written_append _ _ _ _ _ _ w (c.write_more.ensures w.plain q))
