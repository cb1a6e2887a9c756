use Rattle.std.proofs.Common.{Some, arith}
use Rattle.dns_opt.specs.Extended.{extended, extended_octets}
use Rattle.dns_route.proofs.OwnBuilt.{error_built, explained_built}
use Rattle.dns_route.proofs.laws.own_replies_are_error_replies.Goals as goal

pub returns-clause-plain : goal.returns-clause-plain
returns-clause-plain c =
    let typed = c.typed_records_read_back.ensures in
    error_built (record { same = c.messages_read_back.ensures.same; answers = typed.answers; authority = typed.authority; additional = typed.additional })

pub returns-clause-explained : goal.returns-clause-explained
returns-clause-explained c = λ query text h.
    let typed = c.typed_records_read_back.ensures in
    explained_built (record { same = c.messages_read_back.ensures.same; answers = typed.answers; authority = typed.authority; additional = typed.additional }) query 2 (omega arith) h 15 (extended_octets (extended 0 (Some text)))
