use Rattle.std.proofs.Common.{◌≡◌, subst, Err}
use Rattle.std.specs.Option.{option_copied}
use Rattle.std.proofs.lemmas.Result.{err_from_is_err_and}
use Rattle.dns_base.specs.Msg.{Msg}
use Rattle.dns_base.specs.Builds.{Builds, unlimited}
use Rattle.dns_base.proofs.BuildLaws.{sections}
use Rattle.dns_service.proofs.LastOpts.{opt_refused}
use Rattle.dns_service.proofs.copied.CopiedMessage.build.Goals as goal

pub returns-in_err-message : goal.returns-in_err-message
returns-in_err-message c =
    let p = err_from_is_err_and c.from_residual.result c.from_residual.ensures.1 in
    let e : ◌≡◌ {A = Msg} (sections c.self.inside.header c.as_slice.result.now c.as_slice-2.result.now c.as_slice-3.result.now c.as_slice-4.result.now) c.args.self.now = cc (c.self.view_is, c.as_slice.ensures.value, c.as_slice-2.ensures.value, c.as_slice-3.ensures.value, c.as_slice-4.ensures.value) in
    rw (p.1, p.2) (opt_refused c.args.self.now (option_copied c.args.opt) c.in_err-message.field-0.0 (subst (λ (m : Msg). Builds (unlimited m) (Err c.in_err-message.field-0.0)) e c.in_err-message.ensures))
