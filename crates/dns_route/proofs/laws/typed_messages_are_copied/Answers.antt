use Rattle.dns_route.proofs.OwnBuilt.{copied_back}
use Rattle.dns_route.proofs.laws.typed_messages_are_copied.Goals as goal

pub returns : goal.returns
returns c =
    let typed = c.typed_records_read_back.ensures in
    copied_back (record { same = c.messages_read_back.ensures.same; answers = typed.answers; authority = typed.authority; additional = typed.additional })
