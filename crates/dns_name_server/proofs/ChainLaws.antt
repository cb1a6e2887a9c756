-- A chain of aliases, name by name.
use Rattle.std.proofs.Common.{◌≡◌, ℕ, suc, ◌-◌, ◌<◌, Bool, true, false, List, [], ◌∷◌, ◌++◌, refl, ap, sym, ◌∙◌, arith}
use Rattle.std.specs.Prelude.{◌&&◌}
use Rattle.dns_base.specs.Msg.{ResourceRecord}
use Rattle.dns_message.specs.declared.question.Question.{Question}
use Rattle.dns_route.specs.Routes.{ends_name}
use Rattle.dns_zone.specs.Owned.{ZoneState}
use Rattle.dns_zone.specs.ZoneReply.{ZoneReply, authoritative}
use Rattle.dns_zone_tree.specs.Regions.{asked_region}
use Rattle.dns_name_server.specs.NameServerReplies.{by_region, is_answered, name_server_reply, reply_from}
use Rattle.dns_name_server.specs.Steps.{StepsTo, behind, end_reply, wired}
use Rattle.dns_name_server.specs.declared.step.End.{End}
use Rattle.dns_name_server.specs.declared.step.Step.TheVariants.{End as Ends, On}
use Rattle.dns_name_server.proofs.StepLaws.{reply_ends, reply_on, reply_stops}

-- what was given, and the reply for a name that others led to, of which that many more may be asked for
module _ (z : ZoneState) (t : ℕ) (q : Question) (given : List ResourceRecord) (left : ℕ) (seen : List (List (List ℕ))) (name : List (List ℕ)) (c : behind given (wired (reply_from z t left seen name)) ≡ wired (name_server_reply z q)) where
  pub chain_last : left ≡ 0 → behind given (wired (authoritative [])) ≡ wired (name_server_reply z q)
  chain_last e = ap (λ (r : ZoneReply). behind given (wired r)) (sym (reply_ends z t left seen name e)) ∙ c

  pub chain_stops : 0 < left → is_answered z seen name ≡ false → behind given (wired (authoritative [])) ≡ wired (name_server_reply z q)
  chain_stops l e =
      let k : left ≡ suc (left - 1) = omega (arith, l) in
      ap (λ (r : ZoneReply). behind given (wired r)) (sym (reply_stops z t left (left - 1) seen name k e)) ∙ c

  module _ (l : 0 < left) (a : is_answered z seen name ≡ true) where
    so_asked : behind given (wired (by_region z (reply_from z t (left - 1) (seen ++ name ∷ [])) t name (asked_region z t name))) ≡ wired (name_server_reply z q)
    so_asked =
        let k : left ≡ suc (left - 1) = omega (arith, l) in
        ap (λ (r : ZoneReply). behind given (wired r)) (sym (reply_on z t left (left - 1) seen name k a)) ∙ c

    pub chain_ends : (new : List ResourceRecord) (e : End) → StepsTo z given new (Ends e) (λ go. by_region z go t name (asked_region z t name)) → behind new (wired (end_reply z e)) ≡ wired (name_server_reply z q)
    chain_ends new e h = h (reply_from z t (left - 1) (seen ++ name ∷ [])) ∙ so_asked

    pub chain_next : (new : List ResourceRecord) (next : List (List ℕ)) (more : List (List (List ℕ))) → more ≡ seen ++ name ∷ [] → StepsTo z given new (On next) (λ go. by_region z go t name (asked_region z t name)) → behind new (wired (reply_from z t (left - 1) more next)) ≡ wired (name_server_reply z q)
    chain_next new next more m h =
        ap (λ (s : List (List (List ℕ))). behind new (wired (reply_from z t (left - 1) s next))) m ∙ (h (reply_from z t (left - 1) (seen ++ name ∷ [])) ∙ so_asked)

-- a name that is asked for lies in the zone
pub answered_within : (z : ZoneState) (seen : List (List (List ℕ))) (name : List (List ℕ)) → is_answered z seen name ≡ true → ends_name name z.apex ≡ true
answered_within z seen name e = first_of (ends_name name z.apex) _ e
  where
    first_of : (a b : Bool) → (a && b) ≡ true → a ≡ true
    first_of true b h = refl
    first_of false b h = h

-- the name of the question is the first
pub chain_first : (z : ZoneState) (t : ℕ) (q : Question) (given : List ResourceRecord) (name : List (List ℕ)) → t ≡ q.qtype → name ≡ q.qname → given ≡ [] → behind given (wired (reply_from z t 128 [] name)) ≡ wired (name_server_reply z q)
chain_first z t q given name e n g = (λ i. behind (g i) (wired (reply_from z (e i) 128 [] (n i))))

pub first_answered : (z : ZoneState) (q : Question) (name : List (List ℕ)) → name ≡ q.qname → ends_name q.qname z.apex ≡ true → is_answered z [] name ≡ true
first_answered z q name n w = ap (λ (x : List (List ℕ)). is_answered z [] x) n ∙ ap (λ (x : Bool). x && true) w
