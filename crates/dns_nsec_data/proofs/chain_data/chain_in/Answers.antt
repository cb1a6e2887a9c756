use Rattle.std.proofs.Common.{subst, sym}
use Rattle.std.specs.List.Sorted.{IsPermutation}
use Rattle.dns_nsec_data.proofs.NsecLaws.{sorted_apart}
use Rattle.dns_nsec_data.proofs.chain_data.chain_in.Goals as goal

pub returns-in-Some : goal.returns-in-Some
returns-in-Some c = record {
  read = c.in-Ok.nsecs.items;
  nsecs = c.in-Ok.ensures;
  order = subst (IsPermutation c.in-Ok.nsecs.items) (sym c.in-Some.ensures) c.in_ok-nsecs-in-Ok.ensures.order;
}

pub returns-in-None : goal.returns-in-None
returns-in-None c = record {
  nsecs = c.in_ok-nsecs-in-Ok.nsecs.items;
  chain = record { read = c.in-Ok.nsecs.items; nsecs = c.in-Ok.ensures; order = c.in_ok-nsecs-in-Ok.ensures.order };
  twice = λ a. c.in-None.ensures (sorted_apart c.in_ok-nsecs-in-Ok.nsecs.items c.in_ok-nsecs-in-Ok.ensures.sorted a);
}
