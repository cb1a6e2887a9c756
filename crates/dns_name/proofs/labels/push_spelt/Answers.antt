use Rattle.std.proofs.Common.{length, refl}
use Rattle.dns_name.proofs.FromTexts.{pushed_behind}
use Rattle.dns_name.proofs.labels.push_spelt.Goals as goal

pub returns : goal.returns
returns c =
    pushed_behind c.args.octets.now.items c.args.label.now c.args.label.now c.push.new.self.items c.extend_from_slice.new.self.items (length c.args.label.now) c.in_ok-extend_from_slice.ensures.items c.in_ok-push.ensures.items refl refl
