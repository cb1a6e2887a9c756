use Rattle.std.proofs.Common.{rules, ℕ, ◌≤◌, ◌≡◌, ◌++◌, take, drop, length, length-drop, ◌-◌, ap, sym, ◌∙◌, arith}
use Rattle.std.proofs.lemmas.Grind.{common_steps}
use Rattle.dns_memory.specs.Passing.{Passing}
use Rattle.dns_memory.proofs.Pieces.{next_came, next_piece}
use Rattle.dns_memory.proofs.octet_replay.OctetReplay.read.Goals as goal

pub returns : goal.returns
returns c =
    let i = c.self.inside in
    let n = c.min-count.result in
    let buf = c.copy_from_slice.new.self ++ drop n c.args.buf.now in
    let e = rw c.deref.ensures.value at c.copy_from_slice.ensures.after in
    let fits : n ≤ length i.octets.items - i.place = search rules in
    let len : length i.octets.items - i.place ≡ length c.args.self.now.left = simp length-drop at (ap (λ (a : Passing ℕ). length a.left) c.self.view_is) in
    let size : length buf ≡ length c.args.buf.now = grind (arith, common_steps) in
    record {
      some = omega arith;
      count = rw size (omega arith);
      came = next_came i.octets.items c.copy_from_slice.new.self c.args.buf.now i.place n e fits ∙ ap (λ (a : Passing ℕ). a.came ++ take n buf) c.self.view_is;
      left = ap (λ (a : Passing ℕ). a.left) (sym c.self.view_is) ∙ next_piece i.octets.items c.copy_from_slice.new.self c.args.buf.now i.place n e fits;
    }
