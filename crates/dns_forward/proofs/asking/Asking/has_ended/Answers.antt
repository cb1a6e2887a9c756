use Rattle.std.proofs.Common.{◌≡◌, nat_eq}
use Rattle.dns_forward.specs.Asked.{has_ended}
use Rattle.dns_forward.proofs.Heard.{none_left}
use Rattle.dns_forward.proofs.asking.Asking.has_ended.Goals as goal

pub returns : goal.returns
returns c = λ q es h.
    let e : nat_eq c.args.self.now.left 0 ≡ has_ended q es = none_left q es c.args.self.now.left c.args.self.now.last h.left in
    cc
