use Rattle.std.proofs.Common.{◌≡◌, [], IfOk, ap, subst, ◌∙◌}
use Rattle.dns_name.specs.Labels.{spell}
use Rattle.dns_message.specs.Msg.{ResourceRecord}
use Rattle.dns_message.specs.Records.{record_of}
use Rattle.dns_tsig.specs.Keys.{algorithm_name}
use Rattle.dns_tsig.specs.Refusals.{other_octets, refusal_stamp}
use Rattle.dns_tsig.specs.Tsig.{six}
use Rattle.dns_tsig.proofs.Refusing.{signed_pieces}
use Rattle.dns_tsig.proofs.refusal.signed_refusal.Goals as goal

pub returns-clause-value : goal.returns-clause-value
returns-clause-value c =
    let k = c.args.key.now in
    let t = c.args.tsig.now in
    let stamp = c.refusal_stamp-stamp.result in
    let other = c.other_octets-other.result.now in
    let owner : c.in_ok-owner.owner ≡ k.name = c.in_ok-owner.ensures ∙ c.name.ensures in
    let algorithm : c.algorithm_octets.result.now ≡ spell (algorithm_name k.algorithm) = c.algorithm_octets.ensures.value ∙ ap (λ a. spell (algorithm_name a)) c.algorithm.ensures in
    let rest = c.other_octets-other.ensures.value ∙ ap (other_octets c.args.error) c.six_octets-time.ensures in
    let code = c.as_slice.ensures.value ∙ c.code_of-mac.ensures [] in
    let same = signed_pieces k stamp (refusal_stamp c.args.error c.args.now c.args.fudge t) c.mac.result.now t.mac c.args.reply.now other (other_octets c.args.error (six c.args.now)) c.as_slice.result.now c.algorithm_octets.result.now c.in_ok-owner.owner c.number_at-id.result
    c.refusal_stamp-stamp.ensures.value c.mac.ensures.value rest owner algorithm c.number_at-id.ensures code in
    subst (λ (y : ResourceRecord). IfOk c.record_with.result (λ r. record_of r ≡ y)) same c.record_with.ensures.value
