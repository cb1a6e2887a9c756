use Rattle.std.proofs.Common.{◌≡◌, ◌∙◌, ◌++◌, ℕ, List, ap, append_assoc, codes, decimal, string_bytes}
use Rattle.dns_listener.proofs.Told.{if_ok}
use Rattle.dns_listener.proofs.counts.push_others.Goals as goal

joined : (text a1 a2 a3 b1 b2 b3 c1 c2 c3 c4 c5 one two three : List ℕ) → one ≡ text ++ (a1 ++ (a2 ++ a3)) → two ≡ one ++ (b1 ++ (b2 ++ b3)) → three ≡ two ++ (c1 ++ (c2 ++ (c3 ++ (c4 ++ c5)))) → three ≡ text ++ (a1 ++ a2 ++ a3 ++ b1 ++ b2 ++ b3 ++ c1 ++ c2 ++ c3 ++ c4 ++ c5)
joined text a1 a2 a3 b1 b2 b3 c1 c2 c3 c4 c5 one two three p q r =
    r ∙ (ap (λ (x : List ℕ). x ++ (c1 ++ (c2 ++ (c3 ++ (c4 ++ c5))))) (q ∙ ap (λ (x : List ℕ). x ++ (b1 ++ (b2 ++ b3))) p) ∙ simp append_assoc)

pub returns : goal.returns
returns c =
    let n = c.args.numbers.now in
    if_ok c.writeln-3.result (joined (string_bytes c.args.text.now)
    (codes "connections ") (decimal n.connections) (codes " accepted\n")
    (codes "responses ") (decimal n.dropped) (codes " dropped\n")
    (codes "transfers ") (decimal n.begun) (codes " begun, ") (decimal n.refused) (codes " refused\n")
    (string_bytes c.writeln.new.self) (string_bytes c.writeln-2.new.self) (string_bytes c.writeln-3.new.self)
    c.in_ok-writeln.ensures.bytes c.in_ok-writeln-2.ensures.bytes) c.writeln-3.ensures.bytes
