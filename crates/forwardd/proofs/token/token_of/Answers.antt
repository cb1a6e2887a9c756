-- What a token's number stands for.
use Rattle.std.proofs.Common.{◌≡◌, ◌∙◌, ap, arith}
use Rattle.forwardd.specs.Tokens.{number_of, source_of}
use Rattle.forwardd.proofs.Tokens.{stands}
use Rattle.forwardd.proofs.token.token_of.Goals as goal

pub returns-clause-stands : goal.returns-clause-stands
returns-clause-stands c = λ there fits.
    let n = c.args.listeners in
    let s = c.args.source in
    let e : c.number_of.result ≡ number_of n s = omega arith in
    ap (source_of n) e ∙ stands n s there
