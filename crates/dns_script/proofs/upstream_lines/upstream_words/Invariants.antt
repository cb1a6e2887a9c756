use Rattle.std.proofs.Common.{◌≡◌, [], drop}
use Rattle.dns_script.specs.ServiceLines.{upstream_words_after}
use Rattle.dns_script.proofs.upstream_lines.upstream_words.Given as goal

abbrev pub invariant-loop-i : goal.invariant-loop-i
invariant-loop-i l = upstream_words_after l.list (drop l.i l.words) ≡ upstream_words_after [] (drop 2 l.words)
