use Rattle.std.proofs.Common.{◌≡◌, ℕ, List, [], ◌∷◌, ◌++◌, subst, ◌∙◌, arith}
use Rattle.std.proofs.lemmas.Grind.{common_steps}
use Rattle.dns_base.specs.Msg.{ResourceRecord}
use Rattle.dns_zone.specs.Owned.{ZoneState}
use Rattle.dns_zone_tree.specs.Regions.{asked_region}
use Rattle.dns_name_server.specs.NameServerReplies.{by_region}
use Rattle.dns_name_server.specs.Steps.{StepsTo}
use Rattle.dns_name_server.specs.declared.step.Step.{Step}
use Rattle.dns_name_server.specs.declared.step.Step.TheVariants.{On}
use Rattle.dns_name_server.proofs.ChainLaws.{answered_within, chain_ends, chain_first, chain_next, first_answered}
use Rattle.dns_name_server.proofs.reply.chain_from.Goals as goal

pub step_of-requires : goal.step_of-requires
step_of-requires c =
    let z = c.args.zone.now in
    answered_within z [] c.args.name.now (first_answered z c.args.question.now c.args.name.now c.requires.name c.requires.within)

-- a step that is known
known : (z : ZoneState) (t : ℕ) (given new : List ResourceRecord) (found s : Step) (n : List (List ℕ)) → StepsTo z given new found (λ go. by_region z go t n (asked_region z t n)) → found ≡ s → StepsTo z given new s (λ go. by_region z go t n (asked_region z t n))
known z t given new found s n h i = subst (λ (x : Step). StepsTo z given new x (λ go. by_region z go t n (asked_region z t n))) i h

pub returns-in-End : goal.returns-in-End
returns-in-End c =
    let z = c.args.zone.now in
    let q = c.args.question.now in
    let n = c.args.name.now in
    let t = c.to_int.result in
    let s = chain_first z t q c.args.given.now n (c.to_int.ensures.value ∙ c.qtype.ensures) c.requires.name c.requires.none in
    let h = known z t c.args.given.now c.step_of.new.given c.in_ok-found.found _ n c.in_ok-found.ensures c.in-End.is in
    chain_ends z t q c.args.given.now 128 [] n s (omega arith) (first_answered z q n c.requires.name c.requires.within) c.step_of.new.given c.in-End.end h

pub chain_behind-requires : goal.chain_behind-requires
chain_behind-requires c =
    let z = c.args.zone.now in
    let q = c.args.question.now in
    let n = c.args.name.now in
    let t = c.to_int.result in
    let e = c.to_int.ensures.value ∙ c.qtype.ensures in
    let s = chain_first z q.qtype q c.args.given.now n (λ _. q.qtype) c.requires.name c.requires.none in
    let h = known z t c.args.given.now c.step_of.new.given c.in_ok-found.found _ n c.in_ok-found.ensures c.in-On.is in
    let k = subst (λ (u : ℕ). StepsTo z c.args.given.now c.step_of.new.given (On c.in-On.next) (λ go. by_region z go u n (asked_region z u n))) e h in
    let m : c.push.new.self.items ≡ [] ++ n ∷ [] = grind (arith, common_steps) in
    chain_next z q.qtype q c.args.given.now 128 [] n s (omega arith) (first_answered z q n c.requires.name c.requires.within) c.step_of.new.given c.in-On.next c.push.new.self.items m k
