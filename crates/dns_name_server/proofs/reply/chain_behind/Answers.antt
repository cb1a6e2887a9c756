use Rattle.std.proofs.Common.{◌≡◌, ◌<◌, ℕ, List, [], ◌∷◌, ◌++◌, true, false, ap, sym, subst, ◌∙◌, arith}
use Rattle.std.proofs.lemmas.Grind.{common_steps}
use Rattle.dns_base.specs.Msg.{ResourceRecord}
use Rattle.dns_route.specs.Routes.{ends_name}
use Rattle.dns_zone.specs.Owned.{ZoneState}
use Rattle.dns_zone_tree.specs.Regions.{asked_region}
use Rattle.dns_name_server.specs.NameServerReplies.{by_region, is_answered, name_server_reply, reply_from}
use Rattle.dns_name_server.specs.Steps.{StepsTo, behind, wired}
use Rattle.dns_name_server.specs.declared.step.Step.{Step}
use Rattle.dns_name_server.proofs.ChainLaws.{answered_within, chain_ends, chain_last, chain_next, chain_stops}
use Rattle.dns_name_server.proofs.reply.chain_behind.Goals as goal

pub names-init : goal.names-init
names-init c =
    let z = c.args.zone.now in
    let q = c.args.question.now in
    subst (λ (t : ℕ). behind c.args.given.now (wired (reply_from z t 127 c.args.names.items c.args.next)) ≡ wired (name_server_reply z q)) (sym (c.to_int-rtype.ensures.value ∙ c.qtype.ensures)) c.requires

pub returns-then-left-eq0 : goal.returns-then-left-eq0
returns-then-left-eq0 c =
    chain_last c.args.zone.now c.to_int-rtype.result c.args.question.now c.names.given c.names.left c.names.seen.items c.names.name c.names.invariant c.if-left-eq0.true

pub returns-then-not-is_answered : goal.returns-then-not-is_answered
returns-then-not-is_answered c =
    let z = c.args.zone.now in
    let l : 0 < c.names.left = grind (arith, common_steps) in
    let b : c.is_answered.result ≡ false = grind (arith, common_steps) in
    let e : is_answered z c.names.seen.items c.names.name ≡ false = sym (c.is_answered.ensures ∙ ap (λ (s : List (List (List ℕ))). is_answered z s c.names.name) c.as_slice.ensures.value) ∙ b in
    chain_stops z c.to_int-rtype.result c.args.question.now c.names.given c.names.left c.names.seen.items c.names.name c.names.invariant l e

pub step_of-requires : goal.step_of-requires
step_of-requires c =
    let z = c.args.zone.now in
    let b : c.is_answered.result ≡ true = grind (arith, common_steps) in
    let e : is_answered z c.names.seen.items c.names.name ≡ true = sym (c.is_answered.ensures ∙ ap (λ (s : List (List (List ℕ))). is_answered z s c.names.name) c.as_slice.ensures.value) ∙ b in
    ap (λ (n : List (List ℕ)). ends_name n z.apex) c.for_ref.ensures.value ∙ answered_within z c.names.seen.items c.names.name e

-- what the step of the name that is asked for leads to
steps : (z : ZoneState) (t : ℕ) (given new : List ResourceRecord) (found s : Step) (r n : List (List ℕ)) → StepsTo z given new found (λ go. by_region z go t r (asked_region z t r)) → r ≡ n → found ≡ s → StepsTo z given new s (λ go. by_region z go t n (asked_region z t n))
steps z t given new found s r n h e i =
    subst (λ (x : Step). StepsTo z given new x (λ go. by_region z go t n (asked_region z t n))) i (subst (λ (x : List (List ℕ)). StepsTo z given new found (λ go. by_region z go t x (asked_region z t x))) e h)

pub returns-in-End : goal.returns-in-End
returns-in-End c =
    let z = c.args.zone.now in
    let t = c.to_int-rtype.result in
    let l : 0 < c.names.left = grind (arith, common_steps) in
    let b : c.is_answered.result ≡ true = grind (arith, common_steps) in
    let a : is_answered z c.names.seen.items c.names.name ≡ true = sym (c.is_answered.ensures ∙ ap (λ (s : List (List (List ℕ))). is_answered z s c.names.name) c.as_slice.ensures.value) ∙ b in
    let h = steps z t c.names.given c.step_of.new.given c.in_ok-found.found _ c.for_ref.result c.names.name c.in_ok-found.ensures c.for_ref.ensures.value c.in-End.is in
    chain_ends z t c.args.question.now c.names.given c.names.left c.names.seen.items c.names.name c.names.invariant l a c.step_of.new.given c.in-End.end h

pub names-preserved : goal.names-preserved
names-preserved c =
    let z = c.args.zone.now in
    let t = c.to_int-rtype.result in
    let m : c.push.new.self.items ≡ c.names.seen.items ++ c.names.name ∷ [] = grind (arith, common_steps) in
    let l : 0 < c.names.left = grind (arith, common_steps) in
    let b : c.is_answered.result ≡ true = grind (arith, common_steps) in
    let a : is_answered z c.names.seen.items c.names.name ≡ true = sym (c.is_answered.ensures ∙ ap (λ (s : List (List (List ℕ))). is_answered z s c.names.name) c.as_slice.ensures.value) ∙ b in
    let h = steps z t c.names.given c.step_of.new.given c.in_ok-found.found _ c.for_ref.result c.names.name c.in_ok-found.ensures c.for_ref.ensures.value c.in-On.is in
    chain_next z t c.args.question.now c.names.given c.names.left c.names.seen.items c.names.name c.names.invariant l a c.step_of.new.given c.in-On.next c.push.new.self.items m h
