-- Zones that are judged by keys, one by one.
use Rattle.std.proofs.Common.{◌≡◌, ℕ, ◌+◌, ◌<◌, List, [], ◌∷◌, ◌++◌, length, take, get_or, Option, Some, None, sym, subst}
use Rattle.std.specs.Prelude.{Contains}
use Rattle.std.proofs.lemmas.List.Elements.{All-more, Contains-append_left, Contains-push}
use Rattle.dns_config.specs.declared.config.ZoneEntry.{ZoneEntry}
use Rattle.dns_config.specs.declared.peer.AllowedNetwork.{AllowedNetwork}
use Rattle.dns_config.specs.declared.peer.Peer.{Peer}
use Rattle.dns_tsig.specs.Keys.{KeyParts}
use Rattle.dns_key_access.specs.declared.access.Access.{Access}
use Rattle.dns_key_access.specs.declared.access.ZoneAccess.{ZoneAccess}
use Rattle.zoned.specs.Keys.{AddsZone, AreJudged, Grows, Judges, NotifyIsJudged, TransferIsJudged, notify_judged_by}

pub added_grows : (apex : List (List ℕ)) (allowed : List Access) (before after : List ZoneAccess) → AddsZone apex allowed before after → Grows before after
added_grows apex allowed before after a = λ z h. subst (λ zs. Contains zs z) (sym a.added) (Contains-append_left before (a.zone ∷ []) z h)

pub added_judges : (P : List Access → Type 0) (apex : List (List ℕ)) (allowed : List Access) (before after : List ZoneAccess) → AddsZone apex allowed before after → P allowed → Judges P apex after
added_judges P apex allowed before after a p = record {
  zone = a.zone;
  among = subst (λ zs. Contains zs a.zone) (sym a.added) (Contains-push before a.zone);
  named = a.named;
  by_all = subst P (sym a.permitted) p;
}

grown : (P : List Access → Type 0) (apex : List (List ℕ)) (before after : List ZoneAccess) → Grows before after → Judges P apex before → Judges P apex after
grown P apex before after g j = record { zone = j.zone; among = g j.zone j.among; named = j.named; by_all = j.by_all }

notify_grown : (keys : List KeyParts) (apex : List (List ℕ)) (before after : List ZoneAccess) (o : Option Peer) → Grows before after → notify_judged_by keys apex before o → notify_judged_by keys apex after o
notify_grown keys apex before after None g j = tt
notify_grown keys apex before after (Some p) g j = λ wanted. grown _ apex before after g (j wanted)

pub one_judged : (keys : List KeyParts) (for_all : List AllowedNetwork) (es : List ZoneEntry) (i : ℕ) (e : ZoneEntry) (t n t2 n2 : List ZoneAccess) → i < length es → e ≡ get_or es i e → AreJudged keys for_all (take i es) t n → Grows t t2 → Grows n n2 → TransferIsJudged keys for_all e t2 → NotifyIsJudged keys e n2 → AreJudged keys for_all (take (i + 1) es) t2 n2
one_judged keys for_all es i e t n t2 n2 p is a gt gn jt jn =
    let T : ZoneEntry → Type 0 = λ x. TransferIsJudged keys for_all x t2 in
    let N : ZoneEntry → Type 0 = λ x. NotifyIsJudged keys x n2 in
    record {
      transferred = All-more T es i e p (λ k d h. λ wanted. grown _ _ t t2 gt (a.transferred k d h wanted)) (subst T is jt);
      notified = All-more N es i e p (λ k d h. notify_grown keys _ n n2 _ gn (a.notified k d h)) (subst N is jn);
    }
