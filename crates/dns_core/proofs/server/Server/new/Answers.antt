use Rattle.std.proofs.Common.{◌≡◌, ap, None, arith}
use Rattle.std.specs.Map.{lookup}
use Rattle.std.specs.Ordering.{nat_cmp}
use Rattle.std.specs.BTreeMap.{get, is_at}
use Rattle.std.specs.List.{list_any}
use Rattle.dns_events.specs.declared.look.Look.{Look}
use Rattle.dns_session.specs.Slate.{conf_of}
use Rattle.dns_core.specs.Sent.{conf, slate}
use Rattle.dns_core.specs.Out.{members, taken}
use Rattle.dns_core.specs.Placed.{knows, placed}
use Rattle.dns_core.specs.Outs.{membership, placed_slate}
use Rattle.dns_core.proofs.server.Server.new.Goals as goal

pub returns-clause-serves : goal.returns-clause-serves
unfolding members slate taken conf
returns-clause-serves g c = λ answers. record {
  clients = λ n. let e : get nat_cmp c.new.result n ≡ None = ap (lookup (is_at (nat_cmp n))) c.new.ensures.empty in rw e tt;
  versions = λ n. let e : get nat_cmp c.new.result n ≡ None = ap (lookup (is_at (nat_cmp n))) c.new.ensures.empty in rw e tt;
  used = λ n. ap (list_any (is_at (nat_cmp n))) c.new-2.ensures.empty;
  slots = ap (λ (b : Look). b.taken) c.new-3.ensures;
  shown = ap conf_of c.new-3.ensures;
  few = let v : c.new-3.result.version ≡ 0 = ap (λ (b : Look). b.version) c.new-3.ensures in omega arith;
}

pub returns-clause-steps : goal.returns-clause-steps
unfolding membership placed_slate placed knows
returns-clause-steps g c = λ answers. record {
  clients = λ n. let e : get nat_cmp c.new.result n ≡ None = ap (lookup (is_at (nat_cmp n))) c.new.ensures.empty in rw e tt;
  versions = λ n. let e : get nat_cmp c.new.result n ≡ None = ap (lookup (is_at (nat_cmp n))) c.new.ensures.empty in rw e tt;
  used = λ n. ap (list_any (is_at (nat_cmp n))) c.new-2.ensures.empty;
  book = c.new-3.ensures;
}
