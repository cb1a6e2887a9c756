use Rattle.std.proofs.Common.{◌≡◌, ◌+◌, ◌-◌, length, take, drop}
use Rattle.std.specs.List.{list_all}
use Rattle.std.specs.Prelude.{codes}
use Rattle.std.specs.Str.{bytes_eq}
use Rattle.dns_script.specs.Script.{words_between}
use Rattle.dns_script.proofs.notify_lines.all_pend.Given as goal

abbrev pub invariant-loop-i : goal.invariant-loop-i
invariant-loop-i l = list_all (λ w. bytes_eq w (codes "pend")) (take (length l.words - (l.i + 1)) (drop l.i l.words)) ≡ list_all (λ w. bytes_eq w (codes "pend")) (words_between l.words)
