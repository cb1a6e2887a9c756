use Rattle.std.proofs.Common.{refl}
use Rattle.dns_core.specs.SlateBy.{slate_by}
use Rattle.dns_core.proofs.Leaves.{piece_leaves, reconfigure_leaves, shutdown_leaves, unused_leaves}
use Rattle.dns_core.proofs.Plain.{closed_idle, done_idle}
use Rattle.dns_core.proofs.Settled.{again_idle}
use Rattle.dns_core.proofs.StepBegins.{begin_late, begin_used}
use Rattle.dns_core.proofs.laws.idle_events_leave_a_slate.Goals as goal

pub returns : goal.returns
returns c = record {
  unused = λ answers settings es e u w n. unused_leaves answers e (slate_by answers settings es) u w n;
  used = λ answers settings es e u k. begin_used answers e.kind e (slate_by answers settings es) refl k u;
  late = λ answers settings es e over k. begin_late answers e.kind e (slate_by answers settings es) refl k over;
  turn = λ answers settings es e k is done. done_idle answers e (slate_by answers settings es) k is done;
  piece = λ answers settings es e is. piece_leaves answers settings es e is;
  closed = λ answers settings es e w n p. closed_idle answers e (slate_by answers settings es) w n p;
  again = λ answers settings es e is freed. again_idle answers e (slate_by answers settings es) is freed;
  reconfigure = λ answers settings es e dgram stream is over. reconfigure_leaves answers settings es e dgram stream is over;
  shutdown = λ answers settings es e is over. shutdown_leaves answers settings es e is over;
}
