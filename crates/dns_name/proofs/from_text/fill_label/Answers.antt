use Rattle.std.proofs.Common.{◌≡◌, ◌∷◌, [], List, ℕ, length, Ok, false, arith, rules, ap, sym, ◌∙◌, subst, length-append}
use Rattle.dns_name.specs.FromText.{label_octets, ends_label, first_octet}
use Rattle.dns_name.proofs.FromTexts.{Leads, has_none, has_more}
use Rattle.dns_name.proofs.from_text.fill_label.Goals as goal

pub octets-init : goal.octets-init
octets-init c = record {
  has = subst (λ (l : List ℕ). Leads (label_octets c.args.text.now) l c.args.text.now) (sym c.requires) (has_none c.args.text.now);
  few = omega (arith, ap length c.requires);
}

pub octets-preserved : goal.octets-preserved
octets-preserved c =
    let e : ends_label c.octets.rest.now ≡ false = sym c.ends_label.ensures ∙ c.if-ends_label.false in
    let f : first_octet c.octets.rest.now ≡ Ok (c.in_ok-octet.octet, c.in_ok-octet.behind.now) = first_of (search rules, cc) in
    record {
      has = subst (λ (l : List ℕ). Leads (label_octets c.args.text.now) l c.in_ok-octet.behind.now) (sym c.in_ok-push.ensures.items) (has_more _ c.octets.label.items c.octets.rest.now c.in_ok-octet.behind.now c.in_ok-octet.octet (omega arith) e f c.octets.invariant.has);
      few = omega (arith, ap length c.in_ok-push.ensures.items, length-append c.octets.label.items (c.in_ok-octet.octet ∷ []));
    }
