use Rattle.std.proofs.Common.{◌+◌, drop, sym, subst, arith}
use Rattle.std.proofs.lemmas.Result.{err_from_is_err_and}
use Rattle.dns_base.specs.Builds.{KeepsLimit}
use Rattle.dns_zone.specs.Places.{at_places}
use Rattle.dns_zone_tree.specs.Kinds.{places_of}
use Rattle.dns_name_server.proofs.BuiltLaws.{kinds_done, kinds_pushed, kinds_refused}
use Rattle.dns_name_server.proofs.StepLaws.{records_ahead}
use Rattle.dns_name_server.proofs.compose.answer_kinds.Goals as goal

pub each-preserved : goal.each-preserved
each-preserved c =
    let rs = c.args.records.now in
    let t = c.args.rtype in
    let ks = c.args.kinds.now in
    let i = c.each.kind-index in
    let p = c.in_ok-answer_kind.ensures in
    record {
      same = kinds_pushed c.each.reply _ _ (at_places rs (places_of t (drop (i + 1) ks))) _ (records_ahead rs t ks i _ c.each-test.true) c.each.invariant.same c.answer_kind.new.reply p.0;
      short = subst KeepsLimit (sym p.0) p.1;
    }

pub returns-in_err-answer_kind : goal.returns-in_err-answer_kind
returns-in_err-answer_kind c =
    let p = err_from_is_err_and c.from_residual.result c.from_residual.ensures.1 in
    let rs = c.args.records.now in
    let t = c.args.rtype in
    let ks = c.args.kinds.now in
    let i = c.each.kind-index in
    rw (p.1, p.2) (kinds_refused c.each.reply _ _ (at_places rs (places_of t (drop (i + 1) ks))) _ (records_ahead rs t ks i _ c.each-test.true) c.each.invariant.same c.answer_kind.new.reply c.answer_kind.new.reply c.in_err-answer_kind.field-0.0 c.in_err-answer_kind.ensures)

pub returns : goal.returns
returns c = kinds_done c.each.reply _ c.args.records.now c.args.rtype c.args.kinds.now c.each.kind-index (omega arith) c.each.invariant.same c.each.invariant.short
