use Rattle.std.proofs.Common.{◌≡◌, ℕ, Bool, true, List, None, get_or, map, length, subst, sym, ap, ◌∙◌, arith}
use Rattle.std.specs.List.{Contains, list_any, position}
use Rattle.dns_message.specs.declared.record.Record.{Record}
use Rattle.dns_denial.specs.Nsec3.{Nsec3State}
use Rattle.dns_hashed_zone.specs.HashedChecks.{is_met, is_unlisted3}
use Rattle.dns_hashed_zone.proofs.RecordLaws.{Goes, all_met, goes_again, goes_end, goes_more, goes_start, goes_stop, many_met, said_listed, said_unlisted}
use Rattle.dns_hashed_zone.proofs.check.first_unlisted.Goals as goal

pub each-init : goal.each-init
each-init c =
    let z = c.args.zone.now in
    let h = c.args.hashing.now in
    let ns = c.args.nsecs.now in
    let rs = c.records-records.result.now in
    subst (λ (met : List Bool). Goes z h ns rs 0 met) (sym c.requires.none) (goes_start z h ns rs)

pub each-preserved-then-is_seen : goal.each-preserved-then-is_seen
each-preserved-then-is_seen c =
    goes_again c.args.zone.now c.args.hashing.now c.args.nsecs.now c.records-records.result.now c.each.index c.each.met (omega arith) (c.is_seen.ensures c.if-is_seen.true) c.each.invariant

pub is_listed_at-requires-clause-one : goal.is_listed_at-requires-clause-one
is_listed_at-requires-clause-one c =
    subst (λ (rs : List Record). Contains rs c.index-records-index.result) c.records-records.ensures.value (c.each.index, omega arith, sym c.index-records-index.is)

pub is_listed_at-requires-clause-many : goal.is_listed_at-requires-clause-many
is_listed_at-requires-clause-many c = many_met c.args.zone.now c.args.hashing.now c.args.nsecs.now c.records-records.result.now c.each.index c.each.met c.each.invariant

pub returns-then-not-branch-clause-listed : goal.returns-then-not-branch-clause-listed
returns-then-not-branch-clause-listed c =
    let z = c.args.zone.now in
    let h = c.args.hashing.now in
    let ns = c.args.nsecs.now in
    let rs = c.records-records.result.now in
    let r = c.index-records-index.result in
    goes_stop z h ns rs c.each.index r c.each.met (omega arith) c.index-records-index.is (said_unlisted c.in_ok-is_listed_at.field-0 (is_unlisted3 z h ns r) c.in_ok-is_listed_at.ensures.listed c.if-not-branch.true) c.each.invariant
    ∙ ap (position (is_unlisted3 z h ns)) c.records-records.ensures.value

pub each-preserved : goal.each-preserved
each-preserved c =
    let z = c.args.zone.now in
    let h = c.args.hashing.now in
    let ns = c.args.nsecs.now in
    let rs = c.records-records.result.now in
    let r = c.index-records-index.result in
    goes_more z h ns rs c.each.index r c.each.met c.is_listed_at.new.met (omega arith) c.index-records-index.is
    (said_listed c.in_ok-is_listed_at.field-0 (is_unlisted3 z h ns r) c.in_ok-is_listed_at.ensures.listed c.if-not-branch.false) (c.in_ok-is_listed_at.ensures.met c.if-not-branch.false) c.each.invariant

pub returns-clause-listed : goal.returns-clause-listed
returns-clause-listed c =
    let z = c.args.zone.now in
    let h = c.args.hashing.now in
    let ns = c.args.nsecs.now in
    goes_end z h ns c.records-records.result.now c.each.index c.each.met (omega arith) c.each.invariant ∙ ap (position (is_unlisted3 z h ns)) c.records-records.ensures.value

pub returns-clause-met : goal.returns-clause-met
returns-clause-met c =
    let z = c.args.zone.now in
    let h = c.args.hashing.now in
    let ns = c.args.nsecs.now in
    λ e. all_met z h ns c.records-records.result.now c.each.index c.each.met (omega arith) c.each.invariant
    ∙ ap (λ (rs : List Record). map (λ (n : Nsec3State). list_any (λ (r : Record). is_met z h r n) rs) ns) c.records-records.ensures.value
