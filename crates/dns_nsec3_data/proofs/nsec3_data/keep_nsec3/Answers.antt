use Rattle.std.proofs.Common.{sym, ◌∙◌}
use Rattle.dns_denial.specs.Nsec3.{Hashing}
use Rattle.dns_nsec3_data.specs.Nsec3Data.{Keeps3, KeepsOne3}
use Rattle.dns_nsec3_data.proofs.Nsec3Laws.{if_ok, keeps3, keeps_none3}
use Rattle.dns_nsec3_data.proofs.nsec3_data.keep_nsec3.Goals as goal

pub returns-then-is_nsec3 : goal.returns-then-is_nsec3
returns-then-is_nsec3 c =
    let apex = c.args.apex.now in
    let h : Hashing = record { salt = c.args.param.now.salt.now; iterations = c.args.param.now.iterations } in
    let r = c.args.resource.now in
    let old = c.args.nsecs.now.items in
    let new = c.keep_one.new.nsecs.items in
    if_ok (KeepsOne3 apex h r old new) (Keeps3 apex h r old new) c.keep_one.result c.keep_one.ensures (λ b k. keeps3 apex h r old new (sym c.is_nsec3.ensures ∙ c.if-is_nsec3.true) b k)

pub returns : goal.returns
returns c =
    let h : Hashing = record { salt = c.args.param.now.salt.now; iterations = c.args.param.now.iterations } in
    keeps_none3 c.args.apex.now h c.args.resource.now c.args.nsecs.now.items (sym c.is_nsec3.ensures ∙ c.if-is_nsec3.false)
