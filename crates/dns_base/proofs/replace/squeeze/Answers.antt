use Rattle.dns_base.proofs.Sieved.{squeezed}
use Rattle.dns_base.proofs.replace.squeeze.Goals as goal

pub returns-clause-message : goal.returns-clause-message
returns-clause-message c =
    squeezed c.args.octets.now.items c.as_mut_slice.result.now c.sift-end.new.message _ _ c.truncate.new.self.items _ c.sift-end.result c.args.count c.args.rtype c.args.others.count c.args.others.start
    c.as_mut_slice.ensures.value c.requires.header c.sift-end.ensures.within c.sift-end.ensures.len c.as_mut_slice.ensures.len c.truncate.ensures.items c.sift-end.ensures.message
