use mathlib.Core.Path.{sym, ◌∙◌}
use native.Mathlib.Omega.{arith}
use Rattle.shift.proofs.CheckedLaws.{passed}
use Rattle.one_point.proofs.HeadedLaws.{head-two}
use Rattle.one_point.proofs.PlaceLaws.{rest-word, named-place}
use Rattle.one_point.proofs.KeptRows.{put_low}
use Rattle.one_point.proofs.RestLaws.{rest-named, rest-kept, rest-noted}
use Rattle.tree.proofs.Pairs.{both}
use Rattle.one_point.proofs.rest.put_rest.Goals as goal

pub returns-then-is_simple : goal.returns-then-is_simple
returns-then-is_simple c = both (λ v w. record { value = v; out_after = w }) (passed _ _ _ _ _ (rest-named c.args.head.now c.args.p c.args.part.now c.args.part_marks.now c.args.body.now c.args.marks.now c.args.sure _ (sym c.is_simple.ensures ∙ c.if-is_simple.true)) (c.put_named.ensures.value, c.put_named.ensures.out_after))

pub returns-then-is_apart : goal.returns-then-is_apart
returns-then-is_apart c = both (λ v w. record { value = v; out_after = w }) (passed _ _ _ _ _ (rest-kept c.args.head.now c.args.p c.args.part.now c.args.part_marks.now c.args.body.now c.args.marks.now c.args.sure _ (sym c.is_simple.ensures ∙ c.if-is_simple.false) (sym c.is_apart.ensures ∙ c.if-is_apart.true)) (c.put_kept.ensures.value, c.put_kept.ensures.out_after))

pub returns : goal.returns
returns c = both (λ v w. record { value = v; out_after = w }) (passed _ _ _ _ _ (rest-noted c.args.head.now c.args.p c.args.part.now c.args.part_marks.now c.args.body.now c.args.marks.now c.args.sure _ (sym c.is_simple.ensures ∙ c.if-is_simple.false) (sym c.is_apart.ensures ∙ c.if-is_apart.false)) (c.put_noted.ensures.value, c.put_noted.ensures.out_after))

pub is_simple-requires : goal.is_simple-requires
is_simple-requires c = let h = head-two c.args.head.now c.requires.placing.heading in (omega arith, rest-word c.args.head.now c.args.p c.args.part.now c.args.part_marks.now c.args.body.now c.args.marks.now c.requires)

pub put_named-requires : goal.put_named-requires
put_named-requires c = named-place c.args.head.now c.args.p c.args.part.now c.args.part_marks.now c.args.body.now c.args.marks.now c.requires (sym c.is_simple.ensures ∙ c.if-is_simple.true)

pub is_apart-requires : goal.is_apart-requires
is_apart-requires c = (c.requires.placing.heading, rest-word c.args.head.now c.args.p c.args.part.now c.args.part_marks.now c.args.body.now c.args.marks.now c.requires, put_low c.args.head.now c.args.head.now c.args.p c.args.part.now c.args.part_marks.now c.args.body.now c.args.marks.now c.requires)
