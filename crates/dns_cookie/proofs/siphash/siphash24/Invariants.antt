use Rattle.std.proofs.Common.{◌≡◌, length, drop, take}
use Rattle.std.specs.Prelude.{fold}
use Rattle.dns_cookie.specs.Sip.{word, words, take_word, start}
use Rattle.dns_cookie.proofs.siphash.siphash24.Given as goal

-- what is left turns the state into what the whole message turns the start into
abbrev pub invariant-walk : goal.invariant-walk
invariant-walk l = fold take_word l.state (words (length l.octets) l.rest) ≡ fold take_word (start (word (take 8 l.key)) (word (drop 8 l.key))) (words (length l.octets) l.octets)

abbrev pub decreases-walk : goal.decreases-walk
decreases-walk l = length l.rest
