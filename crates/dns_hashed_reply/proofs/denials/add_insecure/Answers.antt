use Rattle.std.proofs.Common.{◌≡◌, [], List, false, length, ap, refl, sym, ◌∙◌}
use Rattle.std.specs.Prelude.{◌==◌, not, if◌then◌else◌}
use Rattle.dns_message.specs.declared.record.Record.{Record}
use Rattle.dns_zone.specs.Owned.{ZoneState}
use Rattle.dns_zone_tree.proofs.KeptLaws.{on_ok}
use Rattle.dns_zone_tree.specs.Wildcards.{are_some}
use Rattle.dns_signed_reply.specs.SignedReplies.{owned_records}
use Rattle.dns_signed_reply.proofs.StepLaws.{some_is}
use Rattle.dns_hashed_reply.specs.Choices.{names_places}
use Rattle.dns_hashed_reply.specs.HashedReplies.{own_proof}
use Rattle.dns_hashed_reply.proofs.ChoiceLaws.{adds_as, adds_none}
use Rattle.dns_hashed_reply.proofs.denials.add_insecure.Goals as goal

pub returns-then-is_empty : goal.returns-then-is_empty
returns-then-is_empty c =
    let s = c.args.zone.now in
    let cut = c.args.cut.now in
    let o : c.as_slice.result.now ≡ owned_records s.zone cut 43 = c.as_slice.ensures.value ∙ (c.in_ok-found.ensures ∙ ap (λ (z : ZoneState). owned_records z cut 43) c.zone.ensures) in
    let e : c.is_empty.result ≡ (length (owned_records s.zone cut 43) == 0) = c.is_empty.ensures ∙ ap (λ (l : List Record). length l == 0) o in
    let k : are_some (owned_records s.zone cut 43) ≡ false = sym (some_is (owned_records s.zone cut 43) c.is_empty.result e) ∙ ap not c.if-is_empty.true in
    on_ok c.add_own.result c.add_own.ensures (adds_as c.args.chosen.now c.add_own.new.chosen false false (names_places s (own_proof s cut)) (names_places s (if are_some (owned_records s.zone cut 43) then [] else own_proof s cut)) refl
    (ap (λ b. names_places s (if b then [] else own_proof s cut)) (sym k)))

pub returns : goal.returns
returns c =
    let s = c.args.zone.now in
    let cut = c.args.cut.now in
    let o : c.as_slice.result.now ≡ owned_records s.zone cut 43 = c.as_slice.ensures.value ∙ (c.in_ok-found.ensures ∙ ap (λ (z : ZoneState). owned_records z cut 43) c.zone.ensures) in
    let e : c.is_empty.result ≡ (length (owned_records s.zone cut 43) == 0) = c.is_empty.ensures ∙ ap (λ (l : List Record). length l == 0) o in
    let k = sym (some_is (owned_records s.zone cut 43) c.is_empty.result e) ∙ ap not c.if-is_empty.false in
    adds_as c.args.chosen.now c.args.chosen.now false false [] (names_places s (if are_some (owned_records s.zone cut 43) then [] else own_proof s cut)) refl
    (ap (λ b. names_places s (if b then [] else own_proof s cut)) (sym k)) (adds_none c.args.chosen.now)
