use Rattle.std.proofs.Common.{rules, ◌≡◌, ◌≤◌, length, ℕ, ◌+◌, ◌-◌, ◌<◌, sym, ◌∙◌, arith, subst, List}
use Rattle.dns_name.specs.Names.{rest_of, labels_of}
use Rattle.dns_name.proofs.Walks.{near_short, text_within, next_text, next_jump, next_end, next_err}
use Rattle.dns_name.proofs.labels.LabelsIterator.next.Goals as goal

pub overflow_add-label : goal.overflow_add-label
overflow_add-label c =
    let i = c.pieces.self-inside in
    let t = text_within i.reach i.hops i.message.now i.at c.in-Ok-Text.n (sym (rw c.in-Ok-Text.field-0-is at c.in-Ok-Text.ensures)) in
    let ns = near_short i.reach.limit i.hops i.message.now in
    search rules

pub slice_bounds-label-end : goal.slice_bounds-label-end
slice_bounds-label-end c =
    let i = c.pieces.self-inside in
    let t = text_within i.reach i.hops i.message.now i.at c.in-Ok-Text.n (sym (rw c.in-Ok-Text.field-0-is at c.in-Ok-Text.ensures)) in
    let ns = near_short i.reach.limit i.hops i.message.now in
    search rules

pub invariant_of-self : goal.invariant_of-self
invariant_of-self c =
    let i = c.pieces.self-inside in
    (next_text i.message.now i.reach i.at i.size i.hops c.in-Ok-Text.n c.pieces.invariant.goes (sym (rw c.in-Ok-Text.field-0-is at c.in-Ok-Text.ensures))).0

pub returns-in-Ok-Text-clause-steps : goal.returns-in-Ok-Text-clause-steps
returns-in-Ok-Text-clause-steps c =
    let i = c.pieces.self-inside in
    let n = c.in-Ok-Text.n in
    let h = (next_text i.message.now i.reach i.at i.size i.hops n c.pieces.invariant.goes (sym (rw c.in-Ok-Text.field-0-is at c.in-Ok-Text.ensures))).1 in
    let e : i.at + 1 + n - (i.at + 1) ≡ n = omega arith in
    rw e (sym c.pieces.invariant.same ∙ h)

pub returns-in-Ok-Text-clause-goes : goal.returns-in-Ok-Text-clause-goes
returns-in-Ok-Text-clause-goes c =
    let i = c.pieces.self-inside in
    let n = c.in-Ok-Text.n in
    let t = labels_of (rest_of i.message.now i.reach (i.at + n + 1) (i.size + n + 1) i.hops) in
    record { on = λ _. (tt, tt, subst (λ (l : List (List ℕ)). length t < length l) (sym (returns-in-Ok-Text-clause-steps c)) (omega arith)); keeps = tt; rests = λ _. tt }

pub pieces-preserved : goal.pieces-preserved
pieces-preserved c =
    let i = c.pieces.self-inside in
    let h = next_jump i.message.now i.reach i.at i.size i.hops c.in-Ok-Jump.target c.pieces.invariant.goes (sym (rw c.in-Ok-Jump.field-0-is at c.in-Ok-Jump.ensures)) in
    record { goes = h.0; same = sym h.1 ∙ c.pieces.invariant.same }

pub pieces-smaller : goal.pieces-smaller
pieces-smaller c =
    let i = c.pieces.self-inside in
    let h = next_jump i.message.now i.reach i.at i.size i.hops c.in-Ok-Jump.target c.pieces.invariant.goes (sym (rw c.in-Ok-Jump.field-0-is at c.in-Ok-Jump.ensures)) in
    let k : i.hops + 1 ≤ 255 = h.0.jumped in
    omega arith

pub returns-in-Ok-End-clause-steps : goal.returns-in-Ok-End-clause-steps
returns-in-Ok-End-clause-steps c =
    let i = c.pieces.self-inside in
    let h = next_end i.message.now i.reach i.at i.size i.hops (sym (rw c.in-Ok-End.field-0-is at c.in-Ok-End.ensures)) in
    (sym c.pieces.invariant.same ∙ h, h)

pub returns-in-Err-clause-steps : goal.returns-in-Err-clause-steps
returns-in-Err-clause-steps c =
    let i = c.pieces.self-inside in
    let h = next_err i.message.now i.reach i.at i.size i.hops c.in-Err.field-0 (sym c.in-Err.ensures) in
    (sym c.pieces.invariant.same ∙ h, h)
