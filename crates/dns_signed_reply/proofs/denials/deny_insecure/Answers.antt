use Rattle.std.proofs.Common.{◌≡◌, ◌∷◌, [], List, length, ap, sym, ◌∙◌}
use Rattle.std.specs.Prelude.{◌==◌, not, if◌then◌else◌}
use Rattle.dns_message.specs.declared.record.Record.{Record}
use Rattle.dns_zone.specs.Owned.{ZoneState}
use Rattle.dns_zone_tree.proofs.KeptLaws.{on_ok}
use Rattle.dns_zone_tree.specs.Wildcards.{are_some}
use Rattle.dns_signed_reply.specs.SignedReplies.{owned_records}
use Rattle.dns_signed_reply.proofs.NearLaws.{for_none, for_one}
use Rattle.dns_signed_reply.proofs.StepLaws.{some_is}
use Rattle.dns_signed_reply.proofs.denials.deny_insecure.Goals as goal

pub returns-then-is_empty : goal.returns-then-is_empty
returns-then-is_empty c =
    let s = c.args.zone.now in
    let cut = c.args.cut.now in
    let o : c.as_slice.result.now ≡ owned_records s.zone cut 43 = c.as_slice.ensures.value ∙ (c.in_ok-found.ensures ∙ ap (λ (z : ZoneState). owned_records z cut 43) c.zone.ensures) in
    let e : c.is_empty.result ≡ (length (owned_records s.zone cut 43) == 0) = c.is_empty.ensures ∙ ap (λ (l : List Record). length l == 0) o in
    on_ok c.deny.result c.deny.ensures
    (λ f. f ∙ for_one s.zone s.nsecs c.args.into.now.items cut (if are_some (owned_records s.zone cut 43) then [] else cut ∷ []) (ap (λ b. if b then [] else cut ∷ []) (sym (some_is (owned_records s.zone cut 43) c.is_empty.result e) ∙ ap not c.if-is_empty.true)))

pub returns : goal.returns
returns c =
    let s = c.args.zone.now in
    let cut = c.args.cut.now in
    let o : c.as_slice.result.now ≡ owned_records s.zone cut 43 = c.as_slice.ensures.value ∙ (c.in_ok-found.ensures ∙ ap (λ (z : ZoneState). owned_records z cut 43) c.zone.ensures) in
    let e : c.is_empty.result ≡ (length (owned_records s.zone cut 43) == 0) = c.is_empty.ensures ∙ ap (λ (l : List Record). length l == 0) o in
    for_none s.zone s.nsecs c.args.into.now.items (if are_some (owned_records s.zone cut 43) then [] else cut ∷ []) (ap (λ b. if b then [] else cut ∷ []) (sym (some_is (owned_records s.zone cut 43) c.is_empty.result e) ∙ ap not c.if-is_empty.false))
