use Rattle.std.proofs.Common.{refl}
use Rattle.dns_base.specs.declared.draft.Section.TheVariants.{Additional}
use Rattle.dns_base.proofs.Pushed.{draft_wire}
use Rattle.dns_base.proofs.Placed.{known}
use Rattle.dns_base.proofs.Replacing.{spelt_message, read_message}
use Rattle.dns_base.proofs.draft.Draft.additional_start.Goals as goal

pub returns-clause-value : goal.returns-clause-value
returns-clause-value c =
    let i = c.self.inside in
    known i.octets.items i.limit i.starts.additional c.args.self.now i.starts Additional c.self.invariant.0 c.self.view_is c.self.invariant.1 refl

pub returns-clause-spelt : goal.returns-clause-spelt
returns-clause-spelt c =
    let i = c.self.inside in
    let b = c.args.self.now in
    let d = c.self.invariant.0 in
    spelt_message b.message i.starts.additional (draft_wire i.octets.items i.limit b d c.self.view_is).1 (known i.octets.items i.limit i.starts.additional b i.starts Additional d c.self.view_is c.self.invariant.1 refl)

pub returns-clause-read : goal.returns-clause-read
returns-clause-read c =
    let i = c.self.inside in
    let b = c.args.self.now in
    let d = c.self.invariant.0 in
    read_message b.message i.starts.additional (draft_wire i.octets.items i.limit b d c.self.view_is).1 (known i.octets.items i.limit i.starts.additional b i.starts Additional d c.self.view_is c.self.invariant.1 refl)
