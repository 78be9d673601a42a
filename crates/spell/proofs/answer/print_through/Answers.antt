use native.Mathlib.Omega.{arith}
use Rattle.tree.proofs.Pairs.{both}
use Rattle.spell.proofs.AnswerLaws.{zeros, form-none, form-room, form-within, form-done}
use Rattle.spell.proofs.answer.print_through.Goals as goal

pub returns-in_default : goal.returns-in_default
returns-in_default g c = both (λ v w. record { value = v; out_after = w }) (form-none _ _ c.requires.0 _ _ _ c.print_row.ensures c.in_default.is _ c.broken_at.ensures)

pub returns-then-out-n : goal.returns-then-out-n
returns-then-out-n g c = both (λ v w. record { value = v; out_after = w }) (form-room _ _ c.requires.0 _ _ _ c.print_row.ensures _ c.in-Some.is c.if-out-n.true)

pub shared_whole_as_front-copy_from_slice : goal.shared_whole_as_front-copy_from_slice
shared_whole_as_front-copy_from_slice g c =
    let z = zeros g.row.BYTES in
    let w = form-within c.args.row.now c.args.out.now c.requires.0 _ _ _ c.print_row.ensures _ c.in-Some.is (omega arith) in
    (omega arith, omega arith)

pub returns : goal.returns
returns g c =
    let z = zeros g.row.BYTES in
    both (λ v w. record { value = v; out_after = w }) (form-done _ _ c.requires.0 _ _ _ c.print_row.ensures _ c.in-Some.is (omega arith) c.if-out-n.false _ c.copy_from_slice.ensures.after)
