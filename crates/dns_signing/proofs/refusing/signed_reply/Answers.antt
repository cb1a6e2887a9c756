use Rattle.dns_signing.specs.Layer.{clock, refusal_of}
use Rattle.dns_signing.proofs.RefusalMade.{signed_made}
use Rattle.dns_signing.proofs.refusing.signed_reply.Goals as goal

pub returns : goal.returns
returns c =
    let p = refusal_of c.args.fudge c.args.request.now c.args.signed.now in
    signed_made p c.args.key.now c.args.error _ _ _ _ _ _ _ _ c.in_ok-push_within.ensures c.own_size.ensures c.in_ok-added.ensures.value c.as_slice.ensures.value c.tsig-tsig.ensures c.clock-now.ensures.value c.in_ok-reply.ensures (c.refusal_size-taken.ensures (clock c.args.request.now))
