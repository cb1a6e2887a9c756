use Rattle.std.proofs.Common.{arith, ap, length}
use Rattle.dns_base.proofs.Replacing.{others_length}
use Rattle.dns_base.proofs.draft.Draft.len_without.Goals as goal

pub overflow_add-result : goal.overflow_add-result
overflow_add-result c =
    let f = others_length c.args.self.now.message c.args.rtype c.others-others.result.start c.as_slice-message.ensures.lawful c.others-others.ensures.start in
    omega (arith, f.1, c.others-others.ensures.size, c.as_slice-message.ensures.short, ap length c.as_slice-message.ensures.value)

pub returns : goal.returns
returns c =
    let f = others_length c.args.self.now.message c.args.rtype c.others-others.result.start c.as_slice-message.ensures.lawful c.others-others.ensures.start in
    omega (arith, f.0, c.others-others.ensures.size)
