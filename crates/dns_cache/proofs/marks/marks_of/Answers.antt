use Rattle.std.proofs.Common.{Result, Ok, Err, sym}
use Rattle.std.specs.Prelude.{IfOk}
use Rattle.dns_service.specs.Copied.{copied, copied_records}
use Rattle.dns_cache.specs.Marks.{MarksOf, SectionsMarked}
use Rattle.dns_cache.proofs.KeptLaws.{refused_marks, sections_marked}
use Rattle.dns_cache.proofs.marks.marks_of.Goals as goal

over_ok : {A E : Type 0} (r : Result A E) (P Q : A → Type 0) → ((x : A) → P x → Q x) → IfOk r P → IfOk r Q
over_ok (Ok x) P Q f h = f x h
over_ok (Err e) P Q f h = h

pub returns-in-Ok : goal.returns-in-Ok
returns-in-Ok c =
    over_ok c.mark_sections.result
    (λ marks. SectionsMarked (copied_records c.in-Ok.answers) (copied_records c.in-Ok.authority) (copied_records c.in-Ok.additional) marks.items)
    (λ marks. MarksOf (copied c.args.message.now) marks.items)
    (λ marks m. sections_marked c.args.message.now (c.in-Ok.field-0-0, c.in-Ok.answers, c.in-Ok.authority, c.in-Ok.additional) marks.items (sym c.in-Ok.ensures) m)
    c.mark_sections.ensures

pub returns-in-Err : goal.returns-in-Err
returns-in-Err c = refused_marks c.args.message.now c.in-Err.field-0 c.new.result.items (c.records_stand.ensures.authority c.args.message.now) (sym c.in-Err.ensures)
