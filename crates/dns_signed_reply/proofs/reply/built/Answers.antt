use Rattle.std.proofs.Common.{◌≡◌, ap, ◌∙◌}
use Rattle.std.proofs.lemmas.Result.{err_from_is_err_and}
use Rattle.dns_base.specs.Built.{Built}
use Rattle.dns_base.specs.Builds.{unlimited, with_records}
use Rattle.dns_base.specs.declared.draft.Section.TheVariants.{Answer}
use Rattle.dns_zone.specs.ZoneTurns.{zone_begun}
use Rattle.dns_name_server.specs.Steps.{WireReply}
use Rattle.dns_name_server.proofs.BuiltLaws.{answers_refused, authority_refused, begun_refused}
use Rattle.dns_signed_reply.proofs.reply.built.Goals as goal

pub returns-in_err-begun : goal.returns-in_err-begun
returns-in_err-begun c =
    let p = err_from_is_err_and c.from_residual.result c.from_residual.ensures.1 in
    let r : WireReply = record { aa = c.args.reply.now.aa; rcode = c.args.reply.now.rcode; answers = c.args.answers.now; authority = c.args.authority.now; additional = c.args.additional.now } in
    rw (p.1, p.2) (begun_refused c.args.query.now r c.in_err-begun.field-0.0 c.in_err-begun.ensures)

pub returns-in_err-push_records : goal.returns-in_err-push_records
returns-in_err-push_records c =
    let p = err_from_is_err_and c.from_residual-in_err-push_records.result c.from_residual-in_err-push_records.ensures.1 in
    let r : WireReply = record { aa = c.args.reply.now.aa; rcode = c.args.reply.now.rcode; answers = c.args.answers.now; authority = c.args.authority.now; additional = c.args.additional.now } in
    rw (p.1, p.2) (answers_refused c.args.query.now r c.in_ok-begun.begun c.push_records.new.self c.in_err-push_records.field-0.0 c.in_ok-begun.ensures.0 c.in_err-push_records.ensures)

pub returns-in_err-push_records-2 : goal.returns-in_err-push_records-2
returns-in_err-push_records-2 c =
    let p = err_from_is_err_and c.from_residual-in_err-push_records-2.result c.from_residual-in_err-push_records-2.ensures.1 in
    let r : WireReply = record { aa = c.args.reply.now.aa; rcode = c.args.reply.now.rcode; answers = c.args.answers.now; authority = c.args.authority.now; additional = c.args.additional.now } in
    let i : c.authority-behind.result ≡ unlimited (record (zone_begun c.args.query.now r.rcode r.aa) { answers = r.answers }) =
    c.authority-behind.ensures ∙ (c.in_ok-push_records.ensures.0 ∙ ap (λ (b : Built). with_records Answer b c.args.answers.now) c.in_ok-begun.ensures.0) in
    rw (p.1, p.2) (authority_refused c.args.query.now r c.authority-behind.result c.push_records-2.new.self c.in_err-push_records-2.field-0.0 i c.in_err-push_records-2.ensures)
