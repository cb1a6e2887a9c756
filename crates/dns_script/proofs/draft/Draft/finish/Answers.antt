use Rattle.dns_script.proofs.TakenLine.{kept_line}
use Rattle.dns_script.proofs.draft.Draft.finish.Goals as goal

pub returns : goal.returns
returns g c = rw (← c.self.view_is, c.and.ensures) (kept_line _ c.serve-served.result _ c.serve-served.ensures)
