use Rattle.std.proofs.Common.{List, ◌++◌, map, ap, sym, ◌∙◌}
use Rattle.dns_base.specs.Records.{record_of}
use Rattle.dns_message.specs.declared.record.Record.{Record}
use Rattle.dns_zone_tree.proofs.KeptLaws.{on_ok}
use Rattle.dns_signed_reply.specs.DirectReplies.{covering}
use Rattle.dns_signed_reply.proofs.LoopLaws.{put_none}
use Rattle.dns_signed_reply.proofs.placed.write_placed.Goals as goal

pub write_covering-requires : goal.write_covering-requires
write_covering-requires c = c.in-Some.ensures.lawful c.requires

pub returns-in-Some : goal.returns-in-Some
returns-in-Some c =
    let r = c.args.signed.now in
    on_ok c.write_covering.result c.write_covering.ensures (λ e. e ∙ ap (λ (l : List Record). c.args.into.now ++ map record_of (covering r l)) (sym c.in-Some.ensures.value))

pub returns-in-None : goal.returns-in-None
returns-in-None c = put_none _ c.args.into.now (ap (λ (l : List Record). map record_of (covering c.args.signed.now l)) c.in-None.ensures.value)
