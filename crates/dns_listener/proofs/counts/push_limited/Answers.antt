use Rattle.std.proofs.Common.{◌≡◌, ◌∙◌, ◌++◌, ℕ, List, append_assoc, codes, decimal, string_bytes}
use Rattle.dns_listener.proofs.Told.{if_ok}
use Rattle.dns_listener.proofs.counts.push_limited.Goals as goal

joined : (text a b c d e more : List ℕ) → more ≡ text ++ (a ++ (b ++ (c ++ (d ++ e)))) → more ≡ text ++ (a ++ b ++ c ++ d ++ e)
joined text a b c d e more p = p ∙ simp append_assoc

pub returns : goal.returns
returns c =
    let n = c.args.numbers.now in
    if_ok c.writeln.result (joined (string_bytes c.args.text.now) (codes "limited replies ") (decimal n.truncated) (codes " truncated, ")
    (decimal n.limited) (codes " not sent\n") (string_bytes c.writeln.new.self)) c.writeln.ensures.bytes
