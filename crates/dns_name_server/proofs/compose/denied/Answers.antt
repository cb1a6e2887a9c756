use Rattle.std.proofs.Common.{ℕ, List, ap, sym, subst, ◌∙◌}
use Rattle.std.specs.Prelude.{true, if◌then◌else◌}
use Rattle.dns_base.specs.Builds.{Builds, unlimited}
use Rattle.dns_base.specs.Msg.{ResourceRecord}
use Rattle.dns_name_server.specs.Steps.{WireReply, wire_message}
use Rattle.dns_name_server.proofs.BuiltLaws.{denied_is}
use Rattle.dns_name_server.proofs.compose.denied.Goals as goal

pub returns : goal.returns
returns c =
    let z = c.args.zone.now in
    let n = c.denial.result.now in
    let w : ℕ → List ResourceRecord → WireReply = λ code l. record { aa = true; rcode = code; answers = c.args.given.now; authority = n; additional = l } in
    subst (λ (r : WireReply). Builds (unlimited (wire_message c.args.query.now r)) c.built.result)
    (ap (λ (code : ℕ). w code c.new-none.result) c.negative_code.ensures
    ∙ (ap (λ (l : List ResourceRecord). w (if c.args.there then 0 else 3) l) c.new-none.ensures
    ∙ sym (denied_is z c.args.given.now n (if c.args.there then 0 else 3) c.denial.ensures))) c.built.ensures
