use Rattle.std.proofs.Common.{List, map, ap, sym, subst, ◌∙◌}
use Rattle.std.proofs.lemmas.Result.{err_from_is_err_and}
use Rattle.dns_base.specs.Builds.{KeepsLimit}
use Rattle.dns_base.specs.Records.{record_of}
use Rattle.dns_message.specs.declared.record.Record.{Record}
use Rattle.dns_zone.specs.Places.{at_places}
use Rattle.dns_zone_tree.specs.Kinds.{kind_places, places_of}
use Rattle.dns_zone_tree.specs.declared.kinds.TypedPlace.{TypedPlace}
use Rattle.dns_name_server.proofs.BuiltLaws.{found_begun, given_refused, own_given, own_refused}
use Rattle.dns_name_server.proofs.compose.found.Goals as goal

pub returns-in_err-reply : goal.returns-in_err-reply
returns-in_err-reply c =
    let p = err_from_is_err_and c.from_residual.result c.from_residual.ensures.1 in
    let rs = at_places c.args.zone.now.records (kind_places c.args.rtype c.args.kinds.now) in
    rw (p.1, p.2) (found_begun c.args.query.now c.args.given.now rs c.in_err-reply.field-0.0 c.in_err-reply.ensures)

pub returns-in_err-push_records : goal.returns-in_err-push_records
returns-in_err-push_records c =
    let p = err_from_is_err_and c.from_residual-in_err-push_records.result c.from_residual-in_err-push_records.ensures.1 in
    let rs = at_places c.args.zone.now.records (kind_places c.args.rtype c.args.kinds.now) in
    rw (p.1, p.2) (given_refused c.args.query.now c.args.given.now rs c.in_ok-reply.reply c.in_ok-reply.ensures.0 c.push_records.new.self c.in_err-push_records.field-0.0 c.in_err-push_records.ensures)

pub answer_kinds-requires-clause-short : goal.answer_kinds-requires-clause-short
answer_kinds-requires-clause-short c = subst KeepsLimit (sym c.in_ok-push_records.ensures.0) c.in_ok-push_records.ensures.1

pub returns-in_err-answer_kinds : goal.returns-in_err-answer_kinds
returns-in_err-answer_kinds c =
    let p = err_from_is_err_and c.from_residual-in_err-answer_kinds.result c.from_residual-in_err-answer_kinds.ensures.1 in
    let rs = at_places c.args.zone.now.records (kind_places c.args.rtype c.args.kinds.now) in
    let e = ap (λ (x : List Record). map record_of (at_places x (places_of c.args.rtype c.as_slice.result.now))) c.records.ensures.value ∙ ap (λ (ks : List TypedPlace). map record_of (at_places c.args.zone.now.records (places_of c.args.rtype ks))) c.as_slice.ensures in
    rw (p.1, p.2) (own_refused c.args.query.now c.args.given.now rs c.in_ok-reply.reply c.in_ok-reply.ensures.0 c.push_records.new.self c.answer_kinds.new.reply _ c.in_ok-push_records.ensures.0 e c.in_err-answer_kinds.field-0.0 c.in_err-answer_kinds.ensures)

pub returns : goal.returns
returns c =
    let rs = at_places c.args.zone.now.records (kind_places c.args.rtype c.args.kinds.now) in
    let e = ap (λ (x : List Record). map record_of (at_places x (places_of c.args.rtype c.as_slice.result.now))) c.records.ensures.value ∙ ap (λ (ks : List TypedPlace). map record_of (at_places c.args.zone.now.records (places_of c.args.rtype ks))) c.as_slice.ensures in
    own_given c.args.query.now c.args.given.now rs c.in_ok-reply.reply c.in_ok-reply.ensures.0 c.push_records.new.self c.answer_kinds.new.reply _ c.in_ok-push_records.ensures.0 e c.additional.result c.additional.ensures c.in_ok-answer_kinds.ensures
