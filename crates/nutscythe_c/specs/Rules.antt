-- The rule that numbers are.
use Rattle.std.specs.Prelude.{ℕ, Bool, not, nat_eq, Option, Some, None, if◌then◌else◌}
use Rattle.dns_embed.specs.declared.rule.ReplyRule.{ReplyRule}
use Rattle.nutscythe_c.specs.declared.rule.Rule.{Rule}

abbrev pub bit : Bool → ℕ
bit b = if b then 1 else 0

abbrev pub is_set : ℕ → Bool
is_set n = not (nat_eq n 0)

abbrev pub given : ℕ → ℕ → Option ℕ
given flag n = if nat_eq flag 0 then None else Some n

abbrev pub rule_in : Rule → ReplyRule
rule_in r = record {
  speaks_edns = is_set r.speaks_edns;
  edns = record { request_has_opt = is_set r.has_opt; keepalive = given r.has_keepalive r.keepalive };
  mandatory = record { id = r.id; rd = is_set r.rd; limit = given r.is_limited r.limit };
}
