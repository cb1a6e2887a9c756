-- The upstream of the root is one of all, so that it is a fault if it has no server.
use Rattle.std.proofs.Common.{◌≡◌, ◌∙◌, Bool, true, false, cond, List, [], ◌∷◌, length, reverse, nat_eq, Option, Some, refl, ap, sym}
use Rattle.std.specs.Prelude.{◌||◌}
use Rattle.std.specs.List.{find, list_any}
use Rattle.std.proofs.lemmas.List.Sorted.{IsPermutation-reverse, list_any-IsPermutation}
use Rattle.dns_config.specs.declared.address.Endpoint.{Endpoint}
use Rattle.dns_proxy_config.specs.declared.config.UpstreamEntry.{UpstreamEntry}
use Rattle.dns_proxy_config.specs.declared.upstreams.UpstreamError.{UpstreamError}
use Rattle.dns_proxy_config.specs.declared.upstreams.UpstreamError.TheVariants.{NoRoot, NoServer, OutOfMemory}
use Rattle.dns_proxy_config.specs.Faults.{IsFault, IsNoServer, has_no_server}
use Rattle.dns_proxy_config.specs.Proxies.{is_root, root_entry}

either : (a b : Bool) → b ≡ true → (a || b) ≡ true
either true b h = refl
either false b h = h

first : (a b : Bool) → a ≡ true → (a || b) ≡ true
first true b h = refl
first false b h = absurd (cc)

-- what is found is there
found-step : {X : Type 0} (q : X → Bool) (b rest : Bool) (x y : X) (found : Option X) → cond b (Some y) found ≡ Some x → q x ≡ true → (found ≡ Some x → rest ≡ true) → (q y || rest) ≡ true
found-step q true rest x y found is h behind = let same : y ≡ x = cc in first (q y) rest (ap q same ∙ h)
found-step q false rest x y found is h behind = either (q y) rest (behind is)

found : {X : Type 0} (p q : X → Bool) (xs : List X) (x : X) → find p xs ≡ Some x → q x ≡ true → list_any q xs ≡ true
found p q [] x is h = absurd (cc)
found p q (y ∷ ys) x is h = found-step q (p y) (list_any q ys) x y (find p ys) is h (λ there. found p q ys x there h)

serverless : (x : UpstreamEntry) → x.servers.items ≡ [] → has_no_server x ≡ true
serverless x none = ap (λ (es : List Endpoint). nat_eq (length es) 0) none

pub root-fault : (entries : List UpstreamEntry) (x : UpstreamEntry) (e : UpstreamError) → Some x ≡ root_entry entries → IsNoServer x.servers.items e → IsFault entries e
root-fault entries x NoRoot is h = absurd h
root-fault entries x NoServer is h =
    list_any-IsPermutation has_no_server entries (reverse entries) (IsPermutation-reverse entries)
    ∙ found is_root has_no_server (reverse entries) x (sym is) (serverless x h)
root-fault entries x OutOfMemory is h = tt
