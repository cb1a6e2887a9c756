use Rattle.std.proofs.Common.{◌≡◌, ◌∙◌, ◌∷◌, ◌++◌, [], ℕ, List, ap, append_assoc}
use Rattle.dns_zone_copies.specs.Reporting.{copy_text, zone_text}
use Rattle.dns_zone_copies.proofs.secondary.Secondary.push_line.Goals as goal

joined : (a b c text one two three : List ℕ) → one ≡ text ++ a → two ≡ one ++ b → three ≡ two ++ c → three ≡ text ++ (a ++ b ++ c)
joined a b c text one two three p q r = r ∙ (ap (λ (x : List ℕ). x ++ c) (q ∙ ap (λ (x : List ℕ). x ++ b) p) ∙ simp append_assoc)

pub returns : goal.returns
returns c =
    let primary = c.as_str.result.now in
    let asked = c.is_some.result in
    record {
      primary = primary;
      asked = asked;
      added = joined (zone_text c.args.self.now primary asked) (copy_text c.args.self.now.copy.held) (10 ∷ []) _ _ _ _
          c.in_ok-push_zone.ensures c.in_ok-push_copy.ensures c.in_ok-push_str.ensures.bytes;
    }
