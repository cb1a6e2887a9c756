use Rattle.dns_nsec3_data.proofs.Nsec3Laws.{sorted_apart3}
use Rattle.dns_nsec3_data.proofs.chain3_data.hashed_names_in.Goals as goal

pub returns-in-None : goal.returns-in-None
returns-in-None c = record {
  hashing = record { salt = c.in_ok-param.param.salt.now; iterations = c.in_ok-param.param.iterations };
  is = record { param = c.in_ok-param.ensures; allowed = c.in_ok-hashing.ensures.allowed };
  nsec3s = c.in_ok-nsecs-2.nsecs.items;
  chain = record { read = c.in_ok-nsecs.nsecs.items; nsec3s = c.in_ok-nsecs.ensures; order = c.in_ok-nsecs-2.ensures.order };
  twice = λ a. c.in-None.ensures (sorted_apart3 c.in_ok-nsecs-2.nsecs.items c.in_ok-nsecs-2.ensures.sorted a);
}
