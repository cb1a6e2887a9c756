use Rattle.std.proofs.Common.{◌≡◌, ◌∙◌, Bor, List, Option, Some, ap, option_copied, subst, sym}
use Rattle.std.proofs.lemmas.Result.{err_from_is_err_and}
use Rattle.dns_config.specs.declared.address.Endpoint.{Endpoint}
use Rattle.dns_proxy_config.specs.declared.config.UpstreamEntry.{UpstreamEntry}
use Rattle.dns_proxy_config.specs.Faults.{IsNoServer}
use Rattle.dns_proxy_config.specs.Proxies.{root_entry}
use Rattle.dns_proxy_config.proofs.Faulty.{root-fault}
use Rattle.dns_proxy_config.proofs.upstreams.upstreams_of_root.Goals as goal

pub returns-in_err-servers-clause-refused : goal.returns-in_err-servers-clause-refused
returns-in_err-servers-clause-refused c =
    let p = err_from_is_err_and c.from_residual.result c.from_residual.ensures.1 in
    let is : option_copied c.root_of.result ≡ Some c.in-Some.root.now = ap (λ (o : Option (Bor UpstreamEntry)). option_copied o) c.in-Some.is in
    let there : Some c.in-Some.root.now ≡ root_entry c.args.entries.now = sym is ∙ c.root_of.ensures in
    let none : IsNoServer c.in-Some.root.now.servers.items c.in_err-servers.field-0.0 = subst (λ (es : List Endpoint). IsNoServer es c.in_err-servers.field-0.0) c.as_slice.ensures.value c.in_err-servers.ensures.refused in
    rw (p.1, p.2) (root-fault c.args.entries.now c.in-Some.root.now c.in_err-servers.field-0.0 there none)
