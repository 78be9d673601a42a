use mathlib.Core.Path.{sym, ap, ◌∙◌}
use native.Mathlib.Omega.{arith}
use mathlib.Core.Bool.{false}
use Prim.Native.Nat.{◌+◌}
use Rattle.shift.proofs.CheckedLaws.{passed}
use Rattle.one_point.proofs.PlaceLaws.{rest-word}
use Rattle.one_point.proofs.KeptRows.{unsure, row_first, row_stays, row_other}
use Rattle.one_point.proofs.NotedRows.{last-target}
use Rattle.tree.proofs.Pairs.{both}
use Rattle.one_point.proofs.noted.put_flagged.Goals as goal

pub returns-then-p-eq0 : goal.returns-then-p-eq0
returns-then-p-eq0 c = both (λ v w. record { value = v; out_after = w }) (passed _ _ _ _ _ (row_first c.args.head.now c.args.row.now c.args.p c.args.part.now c.args.part_marks.now c.args.body.now c.args.marks.now c.requires.0 c.requires.1 false unsure c.if-p-eq0.true _) (c.put_kept.ensures.value, c.put_kept.ensures.out_after))

pub returns-then-p-head : goal.returns-then-p-head
returns-then-p-head c = both (λ v w. record { value = v; out_after = w }) (passed _ _ _ _ _ (row_stays c.args.head.now c.args.row.now c.args.p c.args.part.now c.args.part_marks.now c.args.body.now c.args.marks.now c.requires.0 c.requires.1 false unsure c.if-p-head.true _) (c.put_kept-then-p-head.ensures.value, c.put_kept-then-p-head.ensures.out_after))

pub returns-then-body-op : goal.returns-then-body-op
returns-then-body-op c = both (λ v w. record { value = v; out_after = w }) (passed _ _ _ _ _ (last-target c.args.head.now c.args.row.now c.args.p c.args.part.now c.args.part_marks.now c.args.body.now c.args.marks.now c.requires.0 c.if-p-eq0.false c.if-p-head.false _) (c.put_names.ensures.value, c.put_names.ensures.out_after))

pub returns-then-body-op-2 : goal.returns-then-body-op-2
returns-then-body-op-2 c = both (λ v w. record { value = v; out_after = w }) (passed _ _ _ _ _ (last-target c.args.head.now c.args.row.now c.args.p c.args.part.now c.args.part_marks.now c.args.body.now c.args.marks.now c.requires.0 c.if-p-eq0.false c.if-p-head.false _) (c.put_inner.ensures.value, c.put_inner.ensures.out_after))

pub returns : goal.returns
returns c = both (λ v w. record { value = v; out_after = w }) (passed _ _ _ _ _ (row_other c.args.head.now c.args.row.now c.args.p c.args.part.now c.args.part_marks.now c.args.body.now c.args.marks.now c.requires.0 c.requires.1 false unsure c.if-p-eq0.false c.if-p-head.false (λ z. c.if-body-op.false (z ∙ sym c.requires.2)) (λ z. c.if-body-op-2.false (z ∙ ap (λ v. v + 10) (sym c.requires.2))) _) (c.put_kept-2.ensures.value, c.put_kept-2.ensures.out_after))

pub bounds-body-0 : goal.bounds-body-0
bounds-body-0 c = let w = rest-word c.args.head.now c.args.p c.args.part.now c.args.part_marks.now c.args.body.now c.args.marks.now c.requires.0 in omega arith

pub bounds-body-0-2 : goal.bounds-body-0-2
bounds-body-0-2 c = let w = rest-word c.args.head.now c.args.p c.args.part.now c.args.part_marks.now c.args.body.now c.args.marks.now c.requires.0 in omega arith
