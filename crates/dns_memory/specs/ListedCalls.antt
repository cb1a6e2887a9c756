-- Which calls of a form in memory fail or answer Again.
use Rattle.std.specs.Prelude.{◌≡◌, Contains}
use Rattle.dns_memory.specs.Memory.{next}
use Rattle.dns_memory.specs.declared.listed_calls.ListedCalls.{ListedCalls}
use Rattle.dns_memory.specs.declared.listed_calls.CallFate.{CallFate}
use Rattle.dns_memory.specs.declared.listed_calls.CallFate.TheVariants.{CarriedOut, Again, Failed}

-- the course of the next call, by its number: a call of the first list fails, one of the second alone answers Again, all others are
-- carried out
abbrev pub TakesFate : CallFate → ListedCalls → ListedCalls → Type 0
TakesFate Failed a b = Contains a.failing.items a.made × (b ≡ record a { made = next a.made; faults = next a.faults })
TakesFate Again a b = ¬ Contains a.failing.items a.made × Contains a.again.items a.made
    × (b ≡ record a { made = next a.made; agains = next a.agains })
TakesFate CarriedOut a b = ¬ Contains a.failing.items a.made × ¬ Contains a.again.items a.made × (b ≡ record a { made = next a.made })
