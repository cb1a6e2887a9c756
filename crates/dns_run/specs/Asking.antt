-- What a cache in front of rules is asked, question by question.
use Rattle.std.specs.Prelude.{ℕ, List}
use Rattle.dns_flood.specs.CachedRules.{CachedState, asked_state, asks_text, rule_turns}
use Rattle.dns_flood.specs.Ask.{Ask}

-- the line of a question
unfoldable pub asked_line : CachedState → Ask → List ℕ
asked_line s ask = (asked_state s ask).line

-- the rules and the cache after it
unfoldable pub asked_behind : CachedState → Ask → CachedState
asked_behind s ask = record s { cached = (asked_state s ask).behind }

-- the lines of questions
unfoldable pub asked_text : CachedState → List Ask → List ℕ
asked_text s asks = asks_text (rule_turns s.rules) s.cached asks
