use Rattle.std.proofs.Common.{arith, sym, ◌∙◌, ap, ◌≡◌, List, ℕ, length, take, ◌-◌, ◌++◌, Ok, Err}
use Rattle.std.proofs.lemmas.Grind.{common_steps}
use Rattle.dns_name.specs.Names.{uncompressed}
use Rattle.dns_name.proofs.Joined.{some_octet, under_long, under_fits, read_joined, named_ok, never_err}
use Rattle.dns_name.proofs.name.Name.under.Goals as goal

pub overflow_sub-length : goal.overflow_sub-length
overflow_sub-length c = some_octet c.args.self.now c.as_slice-front.result.now c.as_slice-front.ensures.value

pub returns-then-length-behind-gt255 : goal.returns-then-length-behind-gt255
returns-then-length-behind-gt255 c =
    sym (under_long c.args.self.now c.args.origin.now c.as_slice-front.result.now c.as_slice-behind.result.now c.as_slice-front.ensures.value c.as_slice-behind.ensures.value (omega arith))

pub returns-in-Ok : goal.returns-in-Ok
returns-in-Ok c =
    let fits = under_fits c.args.self.now c.args.origin.now c.as_slice-front.result.now c.as_slice-behind.result.now c.as_slice-front.ensures.value c.as_slice-behind.ensures.value (omega arith) in
    let octets : c.extend_from_slice.new.self.items ≡ take (length c.as_slice-front.result.now - 1) c.as_slice-front.result.now ++ c.as_slice-behind.result.now = grind (arith, common_steps) in
    let reads = read_joined c.args.self.now c.args.origin.now c.as_slice-front.result.now c.as_slice-behind.result.now c.extend_from_slice.new.self.items c.as_slice-front.ensures.value c.as_slice-behind.ensures.value c.as_slice-front.ensures.named c.as_slice-behind.ensures.named octets (omega arith) in
    sym (named_ok c.args.self.now c.args.origin.now c.in-Ok.name c.extend_from_slice.new.self.items reads c.in-Ok.ensures fits)

pub returns-in-Err : goal.returns-in-Err
returns-in-Err c =
    let octets : c.extend_from_slice.new.self.items ≡ take (length c.as_slice-front.result.now - 1) c.as_slice-front.result.now ++ c.as_slice-behind.result.now = grind (arith, common_steps) in
    let reads = read_joined c.args.self.now c.args.origin.now c.as_slice-front.result.now c.as_slice-behind.result.now c.extend_from_slice.new.self.items c.as_slice-front.ensures.value c.as_slice-behind.ensures.value c.as_slice-front.ensures.named c.as_slice-behind.ensures.named octets (omega arith) in
    absurd (never_err _ c.extend_from_slice.new.self.items _ reads c.in-Err.ensures)
