use Rattle.std.proofs.Common.{◌≡◌, Ok, refl, sym, ◌∙◌, arith}
use Rattle.std.proofs.lemmas.Result.{err_from_is_err_and}
use Rattle.dns_name.specs.declared.piece.Piece.TheVariants.{End, Text, Jump}
use Rattle.dns_name.specs.Names.{name_by, name_piece}
use Rattle.dns_name.proofs.Walks.{walk_err, walk_end, walk_text, walk_long, walk_jump, walk_hops, text_within, jump_back, end_within, or_limited, never, near_short, near_jumped, start_within}
use Rattle.dns_name.proofs.parsed.walked_end.Goals as goal

pub pieces-init : goal.pieces-init
unfolding name_by
pieces-init c = record { within = start_within c.args.reach.limit c.args.start c.args.message.now c.requires.first c.requires.limited; unjumped = λ _. refl; size = omega arith; hops = omega arith; ended = tt; walk = refl }

pub returns-in_err-piece_at-clause-value : goal.returns-in_err-piece_at-clause-value
returns-in_err-piece_at-clause-value c =
    let p = err_from_is_err_and c.from_residual.result c.from_residual.ensures.1 in
    let h = c.in_err-piece_at.ensures in
    rw (p.1, p.2) (sym (walk_err c.args.message.now c.args.reach c.pieces.at c.pieces.size c.pieces.hops c.pieces.end _ (sym h)) ∙ c.pieces.invariant.walk)

pub returns-in-End-clause-value : goal.returns-in-End-clause-value
returns-in-End-clause-value c =
    let h : name_piece c.args.reach c.pieces.hops c.args.message.now c.pieces.at ≡ Ok End = sym (rw c.in-End.is at c.in_ok-piece_at.ensures) in
    let w = walk_end c.args.message.now c.args.reach c.pieces.at c.pieces.size c.pieces.hops c.pieces.end h in
    rw c.unwrap_or.ensures (sym w ∙ c.pieces.invariant.walk)

pub overflow_add-size : goal.overflow_add-size
overflow_add-size c =
    let h : name_piece c.args.reach c.pieces.hops c.args.message.now c.pieces.at ≡ Ok (Text c.in-Text.n) = sym (rw c.in-Text.is at c.in_ok-piece_at.ensures) in
    let t = text_within c.args.reach c.pieces.hops c.args.message.now c.pieces.at c.in-Text.n h in
    omega (arith, c.pieces.invariant.size)

pub overflow_add-size-in-Text : goal.overflow_add-size-in-Text
overflow_add-size-in-Text c =
    let h : name_piece c.args.reach c.pieces.hops c.args.message.now c.pieces.at ≡ Ok (Text c.in-Text.n) = sym (rw c.in-Text.is at c.in_ok-piece_at.ensures) in
    let t = text_within c.args.reach c.pieces.hops c.args.message.now c.pieces.at c.in-Text.n h in
    omega (arith, c.pieces.invariant.size)

pub returns-then-size-n-gt255-clause-value : goal.returns-then-size-n-gt255-clause-value
returns-then-size-n-gt255-clause-value c =
    let h : name_piece c.args.reach c.pieces.hops c.args.message.now c.pieces.at ≡ Ok (Text c.in-Text.n) = sym (rw c.in-Text.is at c.in_ok-piece_at.ensures) in
    let w = walk_long c.args.message.now c.args.reach c.pieces.at c.pieces.size c.pieces.hops c.pieces.end c.in-Text.n h (omega arith) in
    sym w ∙ c.pieces.invariant.walk

pub pieces-preserved-in-Text : goal.pieces-preserved-in-Text
pieces-preserved-in-Text c =
    let h : name_piece c.args.reach c.pieces.hops c.args.message.now c.pieces.at ≡ Ok (Text c.in-Text.n) = sym (rw c.in-Text.is at c.in_ok-piece_at.ensures) in
    let t = text_within c.args.reach c.pieces.hops c.args.message.now c.pieces.at c.in-Text.n h in
    let w = walk_text c.args.message.now c.args.reach c.pieces.at c.pieces.size c.pieces.hops c.pieces.end c.in-Text.n h (omega arith) in
    record { within = t.2; unjumped = c.pieces.invariant.unjumped; size = omega arith; hops = omega arith; ended = c.pieces.invariant.ended; walk = sym w ∙ c.pieces.invariant.walk }

pub returns-then-hops-gt254-clause-value : goal.returns-then-hops-gt254-clause-value
returns-then-hops-gt254-clause-value c =
    let h : name_piece c.args.reach c.pieces.hops c.args.message.now c.pieces.at ≡ Ok (Jump c.in-Jump.target) = sym (rw c.in-Jump.is at c.in_ok-piece_at.ensures) in
    let w = walk_hops c.args.message.now c.args.reach c.pieces.at c.pieces.size c.pieces.hops c.pieces.end c.in-Jump.target h (omega arith) in
    sym w ∙ c.pieces.invariant.walk

pub pieces-preserved : goal.pieces-preserved
pieces-preserved c =
    let h : name_piece c.args.reach c.pieces.hops c.args.message.now c.pieces.at ≡ Ok (Jump c.in-Jump.target) = sym (rw c.in-Jump.is at c.in_ok-piece_at.ensures) in
    let t = jump_back c.args.reach c.pieces.hops c.args.message.now c.pieces.at c.in-Jump.target h in
    let w = walk_jump c.args.message.now c.args.reach c.pieces.at c.pieces.size c.pieces.hops c.pieces.end c.in-Jump.target h (omega arith) in
    let e = c.unwrap_or-in-Jump.ensures in
    let ns = near_short c.args.reach.limit c.pieces.hops c.args.message.now in
    record { within = rw (near_jumped c.args.reach.limit c.pieces.hops c.args.message.now) (omega arith); unjumped = λ q. never _ _ q; size = omega arith; hops = omega arith; ended = rw e (or_limited c.pieces.end c.args.reach.limit c.pieces.hops _ c.args.message.now c.pieces.invariant.ended c.pieces.invariant.unjumped t.1); walk = rw e (sym w ∙ c.pieces.invariant.walk) }

pub returns-in-End-clause-within : goal.returns-in-End-clause-within
returns-in-End-clause-within c =
    let h : name_piece c.args.reach c.pieces.hops c.args.message.now c.pieces.at ≡ Ok End = sym (rw c.in-End.is at c.in_ok-piece_at.ensures) in
    let w = end_within c.args.reach c.pieces.hops c.args.message.now c.pieces.at h in
    rw c.unwrap_or.ensures (or_limited c.pieces.end c.args.reach.limit c.pieces.hops _ c.args.message.now c.pieces.invariant.ended c.pieces.invariant.unjumped w)
