use Rattle.std.proofs.Common.{Bool, false, map, Ok, ap, ◌∙◌}
use Rattle.dns_hmac.specs.Digests.{size_of}
use Rattle.dns_tsig.specs.Sending.{sent}
use Rattle.dns_tsig.specs.Streams.{behind_all, chain_at, chain_behind}
use Rattle.dns_signing.specs.SignedReplies.{stamped}
use Rattle.dns_signing.proofs.Sent.{as_given, is_stream, sent_as}
use Rattle.dns_signing.proofs.laws.signed_transfers_are_taken.Goals as goal

pub returns-clause-taken : goal.returns-clause-taken
returns-clause-taken c = λ p now ms at room bare.
    let e = sent_as p ms room ∙ ap (λ (b : Bool). sent p.key (chain_at p.prior b) (map (stamped p) ms)) at.first in
    let taken = c.signed_streams_are_taken.ensures p.key now p.prior (map (stamped p) ms) at.named (is_stream c.cut_fits.ensures.lawful p now false ms at.timely bare) in
    ap (behind_all p.key (size_of p.key.algorithm) now (Ok (chain_behind p.prior))) e ∙ taken

pub returns-clause-sent : goal.returns-clause-sent
returns-clause-sent c = as_given
