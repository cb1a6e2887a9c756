use Rattle.std.proofs.Common.{◌≡◌, ◌<◌, ℕ, List, [], ◌∷◌, ◌++◌, true, false, rules, refl, ap, sym, subst, ◌∙◌, arith}
use Rattle.std.proofs.lemmas.Grind.{common_steps}
use Rattle.dns_message.specs.declared.record.Record.{Record}
use Rattle.dns_route.specs.Routes.{ends_name}
use Rattle.dns_zone.specs.Owned.{ZoneState}
use Rattle.dns_zone_tree.proofs.KeptLaws.{if_ok}
use Rattle.dns_zone_tree.specs.Regions.{asked_region}
use Rattle.dns_name_server.specs.NameServerReplies.{by_region, is_answered, name_server_reply}
use Rattle.dns_signed_reply.specs.PlainReplies.{StepsTo, behind, said}
use Rattle.dns_signed_reply.specs.declared.step.Step.{Step}
use Rattle.dns_signed_reply.proofs.StepLaws.{chain_ends, chain_first, chain_last, chain_next, chain_stops}
use Rattle.dns_signed_reply.proofs.chain.plain_reply.Goals as goal

pub names-init : goal.names-init
names-init c =
    chain_first c.args.zone.now c.to_int-rtype.result c.args.question.now _ 127 _ c.in_ok-name.name (c.to_int-rtype.ensures.value ∙ c.qtype.ensures) (c.in_ok-name.ensures ∙ c.qname.ensures) (search rules) (search rules) refl c.requires

pub step_of-requires : goal.step_of-requires
step_of-requires c = ap (λ (n : List (List ℕ)). ends_name n c.args.zone.now.apex) c.for_ref.ensures.value ∙ c.names.invariant.within

-- what the step of the name that is asked for leads to
steps : (z : ZoneState) (t : ℕ) (given new : List Record) (found s : Step) (r n : List (List ℕ)) → StepsTo given new found (λ go. by_region z go t r (asked_region z t r)) → r ≡ n → found ≡ s → StepsTo given new s (λ go. by_region z go t n (asked_region z t n))
steps z t given new found s r n h e i =
    subst (λ (x : Step). StepsTo given new x (λ go. by_region z go t n (asked_region z t n))) i (subst (λ (x : List (List ℕ)). StepsTo given new found (λ go. by_region z go t x (asked_region z t x))) e h)

pub returns-in-End : goal.returns-in-End
returns-in-End c =
    let z = c.args.zone.now in
    let t = c.to_int-rtype.result in
    let h = steps z t c.names.given.items c.step_of.new.given.items c.in_ok-found.found _ c.for_ref.result c.names.name c.in_ok-found.ensures c.for_ref.ensures.value c.in-End.is in
    if_ok (λ p. said p ≡ behind c.step_of.new.given.items (said c.in-End.end)) (λ p. said p ≡ name_server_reply z c.args.question.now) c.behind.result c.behind.ensures
    (λ p f. f ∙ chain_ends z t c.args.question.now c.names.given.items c.names.left c.names.seen.items c.names.name c.step_of.new.given.items c.names.invariant c.in-End.end h)

pub returns-then-left-eq0 : goal.returns-then-left-eq0
returns-then-left-eq0 c =
    let z = c.args.zone.now in
    let t = c.to_int-rtype.result in
    let m : c.push.new.self.items ≡ c.names.seen.items ++ c.names.name ∷ [] = grind (arith, common_steps) in
    let h = steps z t c.names.given.items c.step_of.new.given.items c.in_ok-found.found _ c.for_ref.result c.names.name c.in_ok-found.ensures c.for_ref.ensures.value c.in-On.is in
    c.authoritative.ensures ∙ chain_last z t c.args.question.now c.names.given.items c.names.left c.names.seen.items c.names.name c.step_of.new.given.items c.names.invariant c.in-On.next c.push.new.self.items m h c.if-left-eq0.true

pub returns-then-not-is_answered : goal.returns-then-not-is_answered
returns-then-not-is_answered c =
    let z = c.args.zone.now in
    let t = c.to_int-rtype.result in
    let m : c.push.new.self.items ≡ c.names.seen.items ++ c.names.name ∷ [] = grind (arith, common_steps) in
    let h = steps z t c.names.given.items c.step_of.new.given.items c.in_ok-found.found _ c.for_ref.result c.names.name c.in_ok-found.ensures c.for_ref.ensures.value c.in-On.is in
    let l : 0 < c.names.left = grind (arith, common_steps) in
    let b : c.is_answered.result ≡ false = grind (arith, common_steps) in
    let e : is_answered z c.push.new.self.items c.in-On.next ≡ false = sym (c.is_answered.ensures ∙ ap (λ (s : List (List (List ℕ))). is_answered z s c.in-On.next) c.as_slice.ensures.value) ∙ b in
    c.authoritative-then-not-is_answered.ensures ∙ chain_stops z t c.args.question.now c.names.given.items c.names.left c.names.seen.items c.names.name c.step_of.new.given.items c.names.invariant c.in-On.next c.push.new.self.items m h l e

pub names-preserved : goal.names-preserved
names-preserved c =
    let z = c.args.zone.now in
    let t = c.to_int-rtype.result in
    let m : c.push.new.self.items ≡ c.names.seen.items ++ c.names.name ∷ [] = grind (arith, common_steps) in
    let h = steps z t c.names.given.items c.step_of.new.given.items c.in_ok-found.found _ c.for_ref.result c.names.name c.in_ok-found.ensures c.for_ref.ensures.value c.in-On.is in
    let l : 0 < c.names.left = grind (arith, common_steps) in
    let b : c.is_answered.result ≡ true = grind (arith, common_steps) in
    let e : is_answered z c.push.new.self.items c.in-On.next ≡ true = sym (c.is_answered.ensures ∙ ap (λ (s : List (List (List ℕ))). is_answered z s c.in-On.next) c.as_slice.ensures.value) ∙ b in
    chain_next z t c.args.question.now c.names.given.items c.names.left c.names.seen.items c.names.name c.step_of.new.given.items c.names.invariant c.in-On.next c.push.new.self.items m h l e
