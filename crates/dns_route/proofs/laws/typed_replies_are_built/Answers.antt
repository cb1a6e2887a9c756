use Rattle.dns_route.proofs.OwnBuilt.{kept_built}
use Rattle.dns_route.proofs.laws.typed_replies_are_built.Goals as goal

pub returns : goal.returns
returns c =
    let typed = c.typed_records_read_back.ensures in
    kept_built (record { same = c.messages_read_back.ensures.same; answers = typed.answers; authority = typed.authority; additional = typed.additional })
