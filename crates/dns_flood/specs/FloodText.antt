-- The line that a flood is answered by.
use Rattle.std.specs.Prelude.{ℕ, List}
use Rattle.dns_flood.specs.Counts.{output_counts, summary_line}
use Rattle.dns_flood.specs.Flood.{flood_plan}
use Rattle.dns_script.specs.PlanOutputs.{plan_outputs}

-- what is written for a flood
unfoldable pub flood_text : ℕ → ℕ → List ℕ
flood_text seed count = summary_line count (output_counts (plan_outputs (flood_plan seed count)))
