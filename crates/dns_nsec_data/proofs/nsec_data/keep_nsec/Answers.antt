use Rattle.std.proofs.Common.{sym, ◌∙◌}
use Rattle.dns_nsec_data.specs.NsecData.{Keeps, KeepsOne}
use Rattle.dns_nsec_data.proofs.NsecLaws.{if_ok, keeps, keeps_none}
use Rattle.dns_nsec_data.proofs.nsec_data.keep_nsec.Goals as goal

pub returns-then-is_nsec : goal.returns-then-is_nsec
returns-then-is_nsec c =
    let r = c.args.resource.now in
    let old = c.args.nsecs.now.items in
    let new = c.keep_one.new.nsecs.items in
    if_ok (KeepsOne r old new) (Keeps r old new) c.keep_one.result c.keep_one.ensures (λ b k. keeps r old new (sym c.is_nsec.ensures ∙ c.if-is_nsec.true) b k)

pub returns : goal.returns
returns c = keeps_none c.args.resource.now c.args.nsecs.now.items (sym c.is_nsec.ensures ∙ c.if-is_nsec.false)
