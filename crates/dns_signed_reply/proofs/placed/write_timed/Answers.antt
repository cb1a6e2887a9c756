use Rattle.std.proofs.Common.{◌∷◌, [], ◌++◌, ap, ◌∙◌}
use Rattle.dns_base.specs.Records.{record_of}
use Rattle.dns_signed_reply.proofs.placed.write_timed.Goals as goal

pub returns-then-has_ttl : goal.returns-then-has_ttl
returns-then-has_ttl c =
    c.in_ok-push.ensures.ok ∙ ap (λ ttl. c.args.into.now ++ record_of (record c.args.signature.now { ttl = ttl }) ∷ []) (c.has_ttl.ensures c.if-has_ttl.true)
