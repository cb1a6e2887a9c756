use Rattle.std.proofs.Common.{◌<◌, List, map, take, ap, sym, ◌∙◌, arith}
use Rattle.dns_base.specs.Records.{record_of}
use Rattle.dns_message.specs.declared.record.Record.{Record}
use Rattle.dns_zone.specs.ZoneReply.{ZoneReply}
use Rattle.dns_signed_reply.specs.PlainReplies.{said}
use Rattle.dns_signed_reply.proofs.RoomLaws.{bare_kept, built_of, whole_kept}
use Rattle.dns_signed_reply.proofs.reply.in_room.Goals as goal

pub written-requires : goal.written-requires
written-requires c = rw c.as_slice.ensures.value c.requires.answers

pub written-requires-2 : goal.written-requires-2
written-requires-2 c = rw c.as_slice-2.ensures.value c.requires.authority

pub written-requires-3 : goal.written-requires-3
written-requires-3 c = rw c.as_slice-3.ensures.value c.requires.additional

pub first_written-requires : goal.first_written-requires
first_written-requires c = rw c.as_slice-4.ensures.value c.requires.additional

pub returns-then-keeps_room : goal.returns-then-keeps_room
returns-then-keeps_room c =
    let small : c.args.room < 65536 = omega arith in
    let o = c.args.query.now in
    let r = said c.args.reply.now in
    let unsigned = take c.args.unsigned r.additional in
    let b = built_of o r c.in_ok-answers.answers c.in_ok-authority.authority c.in_ok-all.all c.built-whole.result (c.in_ok-answers.ensures ∙ ap (map record_of) c.as_slice.ensures.value) (c.in_ok-authority.ensures ∙ ap (map record_of) c.as_slice-2.ensures.value) (c.in_ok-all.ensures ∙ ap (map record_of) c.as_slice-3.ensures.value) c.built-whole.ensures in
    whole_kept c.args.room small o r unsigned c.built-whole.result b (sym c.keeps_room.ensures ∙ c.if-keeps_room.true)

pub returns : goal.returns
returns c =
    let small : c.args.room < 65536 = omega arith in
    let o = c.args.query.now in
    let r = said c.args.reply.now in
    let unsigned = take c.args.unsigned r.additional in
    let b = built_of o r c.in_ok-answers.answers c.in_ok-authority.authority c.in_ok-all.all c.built-whole.result (c.in_ok-answers.ensures ∙ ap (map record_of) c.as_slice.ensures.value) (c.in_ok-authority.ensures ∙ ap (map record_of) c.as_slice-2.ensures.value) (c.in_ok-all.ensures ∙ ap (map record_of) c.as_slice-3.ensures.value) c.built-whole.ensures in
    let bare : ZoneReply = record r { additional = unsigned } in
    let g = built_of o bare c.in_ok-answers.answers c.in_ok-authority.authority c.in_ok-some.some c.built.result (c.in_ok-answers.ensures ∙ ap (map record_of) c.as_slice.ensures.value) (c.in_ok-authority.ensures ∙ ap (map record_of) c.as_slice-2.ensures.value)
    (c.in_ok-some.ensures ∙ ap (λ (l : List Record). map record_of (take c.args.unsigned l)) c.as_slice-4.ensures.value) c.built.ensures in
    bare_kept c.args.room small o r unsigned c.built-whole.result c.built.result b (sym c.keeps_room.ensures ∙ c.if-keeps_room.false) g
