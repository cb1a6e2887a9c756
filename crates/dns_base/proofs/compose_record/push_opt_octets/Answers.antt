use Rattle.std.proofs.Common.{◌∙◌, ◌++◌, ap, append_assoc}
use Rattle.dns_base.specs.OptFields.{opt_head}
use Rattle.dns_base.proofs.compose_record.push_opt_octets.Goals as goal

pub returns : goal.returns
returns c =
    let o = c.args.target.now.items in
    let h = opt_head c.args.size c.args.ttl _ in
    c.in_ok-extend_from_slice-2.ensures.items ∙ (ap (λ t. t ++ c.args.options.now) (c.in_ok-extend_from_slice.ensures.items ∙ (ap (λ t. t ++ c.opt_head.result) c.in_ok-reserve.ensures.items ∙ ap (λ t. o ++ t) c.opt_head.ensures)) ∙ append_assoc o h c.args.options.now)
