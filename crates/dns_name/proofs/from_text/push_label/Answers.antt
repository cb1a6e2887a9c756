use Rattle.std.proofs.Common.{◌≡◌, ◌++◌, ◌∷◌, ◌<◌, List, ℕ, length, arith, rules, ap, ◌∙◌, length-append}
use Rattle.dns_name.proofs.FromTexts.{fits, few}
use Rattle.dns_name.proofs.from_text.push_label.Goals as goal

pub returns : goal.returns
returns c =
    let l = c.fill_label.new.label.items in
    let o = c.args.octets.now.items in
    let some : 0 < length l = search rules in
    let written : c.push_spelt.new.octets.items ≡ o ++ (length l ∷ l) = c.in_ok-push_spelt.ensures ∙ ap (λ (x : List ℕ). o ++ (length x ∷ x)) c.as_slice.ensures.value in
    record {
      label = l;
      read_as = fits (length o) c.args.text.now l c.in_ok-rest.rest.now c.in_ok-rest.ensures some (search rules);
      written = written;
      some = some;
      few = omega (arith, few c.args.text.now l c.in_ok-rest.rest.now c.in_ok-rest.ensures);
      room = omega (arith, ap length written, length-append o (length l ∷ l));
    }
