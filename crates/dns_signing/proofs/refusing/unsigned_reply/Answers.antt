use Rattle.dns_signing.specs.Layer.{refusal_of}
use Rattle.dns_signing.proofs.RefusalMade.{unsigned_made}
use Rattle.dns_signing.proofs.refusing.unsigned_reply.Goals as goal

pub returns : goal.returns
returns c =
    let p = refusal_of c.args.fudge c.args.request.now c.args.signed.now in
    unsigned_made p c.args.error _ _ _ _ _ _ _ _ c.in_ok-push_within.ensures c.own_size.ensures c.in_ok-added.ensures.value c.as_slice.ensures.value c.tsig-tsig.ensures c.clock-now.ensures.value c.in_ok-reply.ensures c.in_ok-taken.ensures
